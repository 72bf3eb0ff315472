-- The part that is written over is as long as the bytes.
use Rattle.std.proofs.Common.{arith}
use Rattle.image.proofs.Writes.{part_written}
use Rattle.image.proofs.write.write_bytes.Goals as goal

pub returns : goal.returns
returns c = part_written _ _ c.args.bytes.now _ _ c.copy_from_slice.ensures.after (omega arith)
