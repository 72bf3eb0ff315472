-- It is read from the fourth region.
use Rattle.std.proofs.Common.{true, ◌∙◌, arith}
use Rattle.words.specs.Parts.{part}
use Rattle.cores.specs.Registers.{flag}
use Rattle.cached.specs.Layout.{state_of}
use Rattle.cached.proofs.Written.{row_read}
use Rattle.cached.proofs.state.is_due.Goals as goal

pub returns : goal.returns
unfolding part state_of
returns c = c.at.ensures ∙ row_read flag true (part 149 4 c.args.chip.now) c.args.k (omega arith)
