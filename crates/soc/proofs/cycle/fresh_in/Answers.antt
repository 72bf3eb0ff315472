-- The words that are used are the first.
use Rattle.std.proofs.Common.{◌∙◌, arith}
use Rattle.std.proofs.lemmas.Slice.{drop-put_mid}
use Rattle.soc.proofs.Regions.{wrote_front}
use Rattle.soc.proofs.cycle.fresh_in.Goals as goal

pub returns : goal.returns
returns c =
    let w = c.args.chip.now in
    let ys = c.begin.new.chip in
    record { done = wrote_front w ys (omega arith) (omega arith) ∙ c.begin.ensures.value; unused = drop-put_mid 0 169 w ys 169 (omega arith) (omega arith) (omega arith) }
