-- The shut definition is the open one.
use Rattle.rv32.specs.Execute.{fetch}
use Rattle.rv32.proofs.core_state.Core.fetches.Goals as goal

pub returns : goal.returns
unfolding fetch
returns c = record { value = c.counter.ensures.value; within = c.counter.ensures.within }
