-- The chip pays what a chip owes, so that it keeps every promise.
use Rattle.soc.proofs.Owed.{soc_promises}
use Rattle.soc.proofs.promises.keeps_promises.Goals as goal

pub returns : goal.returns
returns c = soc_promises
