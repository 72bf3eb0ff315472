-- It is a part of the last region.
use Rattle.std.proofs.Common.{ap, ◌∙◌, arith}
use Rattle.cache.specs.Words.{slots_of}
use Rattle.cached.proofs.Written.{own_slots}
use Rattle.cached.proofs.regions.cache.Goals as goal

pub returns : goal.returns
returns c i h =
    let w = c.args.chip.now in
    let k = c.args.k in
    let whole = rw c.unwrap.ensures at c.as_array.ensures.cases in
    ap (λ b. slots_of b i) whole.same ∙ own_slots w k _ (omega arith) (omega arith) i h
