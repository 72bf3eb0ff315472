-- The tag is that of a dirty line, and the line's number stays.
use Rattle.cache.proofs.Found.{stored_here}
use Rattle.cache.proofs.lookup.store_in.Goals as goal

pub returns : goal.returns
returns c = stored_here c.args.block.now c.args.number c.args.value c.requires.0 c.requires.1
