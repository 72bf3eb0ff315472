-- One region is written, and the others stay.
use Rattle.std.proofs.Common.{ap, ◌∙◌, arith}
use Rattle.words.specs.Parts.{part}
use Rattle.cached.specs.Layout.{state_of, with_shared}
use Rattle.cached.proofs.Written.{wrote}
use Rattle.cached.proofs.state.set_control.Goals as goal

pub returns : goal.returns
unfolding part state_of
returns c =
    wrote 2 c.args.chip.now c.write_control.new.block (omega arith) (omega arith) (omega arith) ∙ ap (with_shared (state_of c.args.chip.now)) c.write_control.ensures
