-- One region is written, and the others stay.
use Rattle.std.proofs.Common.{true, ap, ◌∙◌, arith}
use Rattle.words.specs.Parts.{part}
use Rattle.cores.specs.Registers.{flag}
use Rattle.cached.specs.Layout.{state_of, with_dues}
use Rattle.cached.proofs.Written.{row_written, wrote}
use Rattle.cached.proofs.state.set_due.Goals as goal

pub returns : goal.returns
unfolding part state_of
returns c =
    let w = c.args.chip.now in
    let v = c.put_at.new.words in
    wrote 3 w v (omega arith) (omega arith) (omega arith) ∙ ap (with_dues (state_of w)) (row_written flag true v (part 149 4 w) c.args.k c.args.due (omega arith) c.put_at.ensures)
