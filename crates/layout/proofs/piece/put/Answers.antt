-- The bytes are a part of memory.
use Rattle.std.proofs.Common.{arith}
use Rattle.layout.proofs.Bytes.{written_part}
use Rattle.layout.proofs.piece.put.Goals as goal

pub returns : goal.returns
returns c = rw c.copy_from_slice.ensures.after (written_part c.args.bytes.now c.args.memory.now c.args.at _ (omega arith) c.requires)
