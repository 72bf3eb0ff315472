-- Each place is written in its turn, and then how many there are.
use Rattle.std.proofs.Common.{◌≡◌, map, length, ◌∙◌, take_all, arith}
use Rattle.std.specs.List.{range_with_len}
use Rattle.board.specs.Layout.{place}
use Rattle.board.proofs.Places.{places_counted, places_more}
use Rattle.board.proofs.layout.write_row.Goals as goal

pub loop-i-preserved : goal.loop-i-preserved
loop-i-preserved c = places_more c.loop-i.words c.as_slice-waiting.result.now c.loop-i.i (omega arith) (omega arith) c.loop-i.invariant

pub returns : goal.returns
returns c =
    let xs = c.as_slice-waiting.result.now in
    let n : c.loop-i.i ≡ length xs = omega arith in
    let e : map (place c.loop-i.words) (range_with_len 0 (length xs)) ≡ xs = rw n at c.loop-i.invariant ∙ take_all (length xs) xs (omega arith) in
    places_counted c.loop-i.words xs (omega arith) (omega arith) e ∙ c.as_slice-waiting.ensures.value
