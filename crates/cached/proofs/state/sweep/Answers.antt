-- It is read from the fifth region.
use Rattle.std.proofs.Common.{◌%◌, ◌∙◌, arith}
use Rattle.words.specs.Parts.{part}
use Rattle.cached.specs.Layout.{state_of}
use Rattle.cached.proofs.Written.{row_read}
use Rattle.cached.proofs.state.sweep.Goals as goal

pub returns : goal.returns
unfolding part state_of
returns c = c.at.ensures ∙ row_read (λ x. x % 64) 0 (part 153 4 c.args.chip.now) c.args.k (omega arith)
