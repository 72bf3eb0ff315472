-- The places read so far.
use Rattle.std.proofs.Common.{◌≡◌, map, length}
use Rattle.std.specs.List.{range_with_len}
use Rattle.board.specs.Layout.{place}
use Rattle.board.proofs.layout.read_row.Given as goal

-- the row so far has the places so far
abbrev pub invariant-loop-i : goal.invariant-loop-i
invariant-loop-i l = (l.waiting.items ≡ map (place l.words) (range_with_len 0 l.i)) × (length l.waiting.items ≡ l.i)
