-- The words that are used are the first.
use Rattle.std.proofs.Common.{◌∙◌, arith}
use Rattle.std.proofs.lemmas.Slice.{drop-put_mid}
use Rattle.cached.proofs.Written.{wrote_front}
use Rattle.cached.proofs.fresh.fresh_in.Goals as goal

pub returns : goal.returns
returns c =
    let w = c.args.chip.now in
    let ys = c.begin.new.chip in
    record { done = wrote_front w ys (omega arith) (omega arith) ∙ c.begin.ensures.value; unused = drop-put_mid 0 3309 w ys 3309 (omega arith) (omega arith) (omega arith) }
