-- The places written so far.
use Rattle.std.proofs.Common.{◌≡◌, map, take}
use Rattle.std.specs.List.{range_with_len}
use Rattle.board.specs.Layout.{place}
use Rattle.board.proofs.layout.write_row.Given as goal

-- the places so far are written
abbrev pub invariant-loop-i : goal.invariant-loop-i
invariant-loop-i l = map (place l.words) (range_with_len 0 l.i) ≡ take l.i l.waiting
