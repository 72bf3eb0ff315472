-- It is read from the first region.
use Rattle.std.proofs.Common.{◌∙◌, arith}
use Rattle.words.specs.Parts.{part}
use Rattle.cores.proofs.CoreWords.{core_read}
use Rattle.cached.specs.Layout.{state_of}
use Rattle.cached.proofs.state.core.Goals as goal

pub returns : goal.returns
unfolding part state_of
returns c = c.at.ensures ∙ core_read (part 0 140 c.args.chip.now) c.args.k (omega arith)
