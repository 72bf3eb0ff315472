-- One statement more, and none is left.
use Rattle.std.proofs.Common.{sym, ◌∙◌}
use Rattle.layout.proofs.Steps.{values_more, values_none}
use Rattle.layout.proofs.lay.name_all.Goals as goal

pub loop-statement-preserved : goal.loop-statement-preserved
loop-statement-preserved c =
    rw (c.next-here.ensures.value, c.name.ensures)
    (sym (values_more c.args.size c.args.statements.now c.loop-statement.statement-index c.loop-statement.here c.loop-statement.values _ c.loop-statement-test.true)
    ∙ c.loop-statement.invariant)

pub returns : goal.returns
returns c =
    sym (values_none c.args.size c.args.statements.now c.loop-statement.statement-index c.loop-statement.here c.loop-statement.values c.loop-statement-test.false)
    ∙ c.loop-statement.invariant
