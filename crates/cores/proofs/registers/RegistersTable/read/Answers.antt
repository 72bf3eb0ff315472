-- The registers are the part that is copied.
use Rattle.std.proofs.Common.{rules}
use Rattle.words.specs.Parts.{part}
use Rattle.cores.proofs.registers.RegistersTable.read.Goals as goal

pub returns : goal.returns
unfolding part
returns c = search rules
