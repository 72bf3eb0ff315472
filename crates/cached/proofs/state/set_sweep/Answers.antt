-- One region is written, and the others stay.
use Rattle.std.proofs.Common.{◌%◌, ap, ◌∙◌, arith}
use Rattle.words.specs.Parts.{part}
use Rattle.cached.specs.Layout.{state_of, with_sweeps}
use Rattle.cached.proofs.Written.{row_written, wrote}
use Rattle.cached.proofs.state.set_sweep.Goals as goal

pub returns : goal.returns
unfolding part state_of
returns c =
    let w = c.args.chip.now in
    let v = c.put_at.new.words in
    wrote 4 w v (omega arith) (omega arith) (omega arith) ∙ ap (with_sweeps (state_of w)) (row_written (λ x. x % 64) 0 v (part 153 4 w) c.args.k c.args.slot (omega arith) c.put_at.ensures)
