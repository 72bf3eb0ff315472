-- Each turn is one core more.
use Rattle.std.proofs.Common.{◌∙◌, arith}
use Rattle.cached.specs.Layout.{state_of}
use Rattle.cached.proofs.Begun.{begun, begun_more, none_begun}
use Rattle.cached.proofs.fresh.begin.Goals as goal

pub loop-k-init : goal.loop-k-init
loop-k-init c = none_begun c.fill.new.self _ c.args.cores (c.fill.ensures.after (λ y e. e))

pub loop-k-preserved : goal.loop-k-preserved
loop-k-preserved c =
    begun_more (state_of c.loop-k.chip) (state_of c.set_core.new.chip) (state_of c.set_on.new.chip) (state_of c.set_due.new.chip) c.loop-k.k c.args.cores c.new.result
    c.set_core.ensures c.new.ensures c.set_on.ensures c.set_due.ensures c.loop-k.invariant

pub returns-clause-value : goal.returns-clause-value
returns-clause-value c = c.set_control.ensures ∙ begun c.loop-k.chip c.args.cores c.args.lines (omega arith) (c.loop-k.invariant.0, λ j l. c.loop-k.invariant.1 j (omega arith))
