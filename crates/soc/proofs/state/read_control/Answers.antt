-- The buffers are parts of the words.
use Rattle.std.proofs.Common.{rules}
use Rattle.words.specs.Parts.{part}
use Rattle.soc.proofs.state.read_control.Goals as goal

pub returns : goal.returns
unfolding part
returns c = search rules
