-- The shut definition is the open one.
use Rattle.rv32.specs.Execute.{need}
use Rattle.rv32.proofs.core_state.Core.needs.Goals as goal

pub returns : goal.returns
unfolding need
returns c = record { value = c.data.ensures.value; within = c.data.ensures.within }
