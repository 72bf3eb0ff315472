-- One region is written, and the others stay.
use Rattle.std.proofs.Common.{◌∙◌, arith}
use Rattle.words.specs.Parts.{part}
use Rattle.soc.specs.Layout.{state_from, state_of}
use Rattle.soc.proofs.Regions.{wrote_control}
use Rattle.soc.proofs.state.set_control.Goals as goal

pub returns : goal.returns
unfolding part state_of
returns c =
    wrote_control c.args.chip.now c.write_control.new.block (omega arith) (omega arith)
    ∙ (λ i. let s = state_of c.args.chip.now in state_from s.cpu s.on (c.write_control.ensures i))
