-- One of the events is an instruction of the core, or none is.
use Rattle.std.proofs.Common.{◌∙◌, rules}
use Rattle.std.proofs.lemmas.Iterator.{YieldsList-from_slice}
use Rattle.std.proofs.lemmas.Iterator.Search.{any_from_yields_List}
use Rattle.cached.specs.Puts.{is_step}
use Rattle.cached.proofs.Cycles.{any_step}
use Rattle.cached.proofs.start.stepped.Goals as goal

pub returns : goal.returns
returns c =
    any_from_yields_List (is_step c.args.k) _ _ c.any.result c.any.ensures.ran (YieldsList-from_slice c.args.did.now cc) (λ x b q k. search rules)
    ∙ any_step c.args.k c.args.did.now
