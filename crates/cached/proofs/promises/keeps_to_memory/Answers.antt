-- As the invariant has it.
use Rattle.cached.proofs.Settled.{always_inside, drained}
use Rattle.cached.proofs.promises.keeps_to_memory.Goals as goal

pub returns : goal.returns
returns c = record { inside = always_inside; drained = drained }
