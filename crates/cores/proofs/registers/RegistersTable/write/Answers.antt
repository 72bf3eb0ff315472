-- What is written is read back.
use Rattle.std.proofs.Common.{arith}
use Rattle.cores.proofs.CoreWords.{core_written}
use Rattle.cores.proofs.registers.RegistersTable.write.Goals as goal

pub returns : goal.returns
returns c = λ _.
    core_written c.args.block.now c.copy_from_slice.new.self c.copy_from_slice-2.new.self c.args.core c.copy_from_slice.ensures.after c.copy_from_slice-2.ensures.after (omega arith)
