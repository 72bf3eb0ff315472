-- The chip pays what a chip owes, so that it keeps every promise.
use Rattle.cached.proofs.Owed.{cached_promises}
use Rattle.cached.proofs.promises.keeps_promises.Goals as goal

pub returns : goal.returns
returns c = cached_promises
