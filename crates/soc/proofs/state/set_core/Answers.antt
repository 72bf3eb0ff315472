-- One region is written, and the others stay.
use Rattle.std.proofs.Common.{◌∙◌, arith}
use Rattle.words.specs.Parts.{part}
use Rattle.cores.proofs.CoreWords.{core_put}
use Rattle.soc.specs.Layout.{shared, state_from, state_of}
use Rattle.soc.proofs.Regions.{wrote_cores}
use Rattle.soc.proofs.state.set_core.Goals as goal

pub returns : goal.returns
unfolding part state_of
returns c =
    wrote_cores c.args.chip.now c.put_at.new.words (omega arith) (omega arith)
    ∙ (λ i. let s = state_of c.args.chip.now in state_from (core_put (part 0 140 c.args.chip.now) c.put_at.new.words c.args.k c.args.core (omega arith) c.put_at.ensures i) s.on (shared s))
