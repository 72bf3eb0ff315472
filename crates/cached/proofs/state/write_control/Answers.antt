-- What is written is read back.
use Rattle.std.proofs.Common.{arith}
use Rattle.cached.proofs.Written.{control_written}
use Rattle.cached.proofs.state.write_control.Goals as goal

pub returns : goal.returns
returns c = control_written c.copy_from_slice.new.self c.args.control (omega arith) (omega arith) (omega arith) c.copy_from_slice.ensures.after
