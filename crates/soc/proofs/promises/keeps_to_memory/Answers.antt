-- As the invariant has it.
use Rattle.soc.proofs.Kept.{always_inside, drained}
use Rattle.soc.proofs.promises.keeps_to_memory.Goals as goal

pub returns : goal.returns
returns c = record { inside = always_inside; drained = drained }
