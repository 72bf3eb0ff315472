-- The shut definition is the open one.
use Rattle.image.specs.Memory.{header_of}
use Rattle.image.proofs.memory.read_header.Goals as goal

pub returns : goal.returns
unfolding header_of
returns c = c.read_fields.ensures
