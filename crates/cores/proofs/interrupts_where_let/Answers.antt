-- The toy chip keeps this promise, since it pays what a chip owes.
use Rattle.cores.proofs.ToyOwed.{toy_promises}
use Rattle.cores.proofs.interrupts_where_let.Goals as goal

pub returns : goal.returns
returns c = toy_promises.where_let
