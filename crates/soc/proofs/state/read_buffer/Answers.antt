-- A flag that is not 0 says that the buffer is full.
use Rattle.std.proofs.Common.{arith}
use Rattle.std.proofs.lemmas.Bool.Decides.{nat_tests}
use Rattle.words.specs.Parts.{part}
use Rattle.soc.proofs.state.read_buffer.Goals as goal

pub returns : goal.returns
unfolding part
returns c = grind (arith, nat_tests)
