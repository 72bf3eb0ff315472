-- The toy chip keeps this promise, since it pays what a chip owes.
use Rattle.cores.proofs.ToyOwed.{toy_promises}
use Rattle.cores.proofs.one_at_a_time.Goals as goal

pub returns : goal.returns
returns c = toy_promises.one_each
