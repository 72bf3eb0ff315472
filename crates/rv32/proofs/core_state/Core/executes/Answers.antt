-- The shut definition is the open one.
use Rattle.rv32.specs.Execute.{execute}
use Rattle.rv32.proofs.core_state.Core.executes.Goals as goal

pub returns : goal.returns
unfolding execute
returns c = record { value = c.effect.ensures.value; within = c.effect.ensures.within }
