-- One region is written, and the others stay.
use Rattle.std.proofs.Common.{ap, ◌∙◌, arith}
use Rattle.words.specs.Parts.{part}
use Rattle.cores.proofs.CoreWords.{core_put}
use Rattle.cached.specs.Layout.{state_of, with_cpus}
use Rattle.cached.proofs.Written.{wrote}
use Rattle.cached.proofs.state.set_core.Goals as goal

pub returns : goal.returns
unfolding part state_of
returns c =
    let w = c.args.chip.now in
    let v = c.put_at.new.words in
    wrote 0 w v (omega arith) (omega arith) (omega arith) ∙ ap (with_cpus (state_of w)) (core_put (part 0 140 w) v c.args.k c.args.core (omega arith) c.put_at.ensures)
