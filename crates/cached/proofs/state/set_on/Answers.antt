-- One region is written, and the others stay.
use Rattle.std.proofs.Common.{ap, ◌∙◌, arith}
use Rattle.words.specs.Parts.{part}
use Rattle.cores.proofs.CoreWords.{on_put}
use Rattle.cached.specs.Layout.{state_of, with_ons}
use Rattle.cached.proofs.Written.{wrote}
use Rattle.cached.proofs.state.set_on.Goals as goal

pub returns : goal.returns
unfolding part state_of
returns c =
    let w = c.args.chip.now in
    let v = c.put_at.new.words in
    wrote 1 w v (omega arith) (omega arith) (omega arith) ∙ ap (with_ons (state_of w)) (on_put (part 140 4 w) v c.args.k c.args.on (omega arith) c.put_at.ensures)
