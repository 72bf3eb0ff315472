-- The toy chip keeps this promise, since it pays what a chip owes.
use Rattle.cores.proofs.ToyOwed.{toy_promises}
use Rattle.cores.proofs.few_wait.Goals as goal

pub returns : goal.returns
returns c = toy_promises.few
