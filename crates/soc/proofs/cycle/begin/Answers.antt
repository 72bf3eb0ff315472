-- Each turn is one core more.
use Rattle.std.proofs.Common.{◌∙◌, arith}
use Rattle.soc.specs.Layout.{state_of}
use Rattle.soc.proofs.Outs.{begun, begun_more}
use Rattle.soc.proofs.cycle.begin.Goals as goal

pub loop-k-preserved : goal.loop-k-preserved
loop-k-preserved c =
    begun_more (state_of c.loop-k.chip) (state_of c.set_core.new.chip) (state_of c.set_on.new.chip) c.loop-k.k c.args.cores c.new.result
    c.set_core.ensures c.new.ensures c.set_on.ensures c.loop-k.invariant

pub returns-clause-value : goal.returns-clause-value
returns-clause-value c = c.set_control.ensures ∙ begun c.loop-k.chip c.args.cores c.args.lines (omega arith) (λ j l. c.loop-k.invariant j (omega arith))
