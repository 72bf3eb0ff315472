-- The shut definition is the open one.
use Rattle.rv32.specs.Decode.{decode}
use Rattle.rv32.proofs.decode.decoded.Goals as goal

pub returns : goal.returns
unfolding decode
returns c = c.by_opcode.ensures
