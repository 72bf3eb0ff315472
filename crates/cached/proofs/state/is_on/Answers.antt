-- It is read from the second region.
use Rattle.std.proofs.Common.{◌∙◌, arith}
use Rattle.words.specs.Parts.{part}
use Rattle.cores.proofs.CoreWords.{on_read}
use Rattle.cached.specs.Layout.{state_of}
use Rattle.cached.proofs.state.is_on.Goals as goal

pub returns : goal.returns
unfolding part state_of
returns c = c.at.ensures ∙ on_read (part 140 4 c.args.chip.now) c.args.k (omega arith)
