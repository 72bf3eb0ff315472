-- The first core that can be started is found, or the last is left.
use Rattle.std.proofs.Common.{sym, ◌∙◌, arith}
use Rattle.cached.specs.Layout.{state_of}
use Rattle.cached.proofs.Cycles.{looking_first, looking_found, looking_next}
use Rattle.cached.proofs.start.next_start.Goals as goal

pub loop-asked-init : goal.loop-asked-init
loop-asked-init c = looking_first (state_of c.args.chip.now) c.control-shared.result c.control-shared.ensures.value c.control-shared.ensures.within.2

pub loop-asked-preserved : goal.loop-asked-preserved
loop-asked-preserved c =
    looking_next (state_of c.args.chip.now) c.loop-asked._asked c.loop-asked.k c.around-k.result c.control-shared.result c.control-shared.ensures.value c.control-shared.ensures.within.0 (sym c.can_start.ensures ∙ c.if-can_start.false) c.around-k.ensures c.loop-asked.invariant

pub returns : goal.returns
returns c = record { value = c.loop-asked.invariant.1 0 (omega arith); within = c.loop-asked.invariant.0 }

pub returns-then-can_start-clause-value : goal.returns-then-can_start-clause-value
returns-then-can_start-clause-value c =
    looking_found (state_of c.args.chip.now) c.loop-asked._asked c.loop-asked.k (omega arith) (sym c.can_start.ensures ∙ c.if-can_start.true) c.loop-asked.invariant
