-- The toy chip keeps this promise, since it pays what a chip owes.
use Rattle.cores.proofs.ToyOwed.{toy_promises}
use Rattle.cores.proofs.cores_go_on.Goals as goal

pub returns : goal.returns
returns c = toy_promises.all_go_on
