-- A core sees its own cache.
use Rattle.std.proofs.Common.{ap}
use Rattle.cached.specs.Layout.{state_of}
use Rattle.cached.specs.declared.control.Control.{Control}
use Rattle.cached.proofs.Lacking.{tried_own}
use Rattle.cached.proofs.act.effect_at.Goals as goal

pub returns : goal.returns
returns c =
    tried_own (state_of c.args.chip.now) c.args.k _ c.cache.ensures _ _ c.attempt.result
    (ap (λ (s : Control). s.size) c.control.ensures.value) c.core.ensures c.attempt.ensures
