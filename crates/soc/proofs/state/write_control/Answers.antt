-- What is written is read back.
use Rattle.std.proofs.Common.{arith}
use Rattle.soc.proofs.Regions.{control_written}
use Rattle.soc.proofs.state.write_control.Goals as goal

pub returns : goal.returns
returns c =
    control_written c.args.block.now c.copy_from_slice.new.self c.write_buffer.new.block c.write_buffer-2.new.block c.args.control
    (omega arith) (omega arith) (omega arith) (cc) (omega arith) (omega arith) c.write_buffer.ensures c.write_buffer-2.ensures
