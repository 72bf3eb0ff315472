-- Each turn is one line more.
use Rattle.std.proofs.Common.{sym, refl, ◌∙◌, arith}
use Rattle.cached.specs.Layout.{state_of}
use Rattle.cached.proofs.Arrivals.{line_more, lines_over}
use Rattle.cached.proofs.deliver.deliver_all.Goals as goal

pub loop-line-init : goal.loop-line-init
loop-line-init c = refl

pub loop-line-preserved : goal.loop-line-preserved
loop-line-preserved c =
    line_more c.args.given.now c.loop-line.line-index _ (state_of c.loop-line.chip) (state_of c.deliver_one.new.chip) (omega arith) c.deliver_one.ensures
    ∙ c.loop-line.invariant

pub returns : goal.returns
returns c = sym (lines_over c.args.given.now c.loop-line.line-index (state_of c.loop-line.chip) (omega arith)) ∙ c.loop-line.invariant
