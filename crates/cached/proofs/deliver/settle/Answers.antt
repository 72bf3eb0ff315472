-- Each turn is one core more.
use Rattle.std.proofs.Common.{◌≡◌, sym, ap, ◌∙◌, arith}
use Rattle.cached.specs.Layout.{state_of, with_dues}
use Rattle.cached.specs.Puts.{dues}
use Rattle.cached.proofs.Arrivals.{settled_all, settled_more, upto, upto_none}
use Rattle.cached.proofs.deliver.settle.Goals as goal

pub loop-k-init : goal.loop-k-init
loop-k-init c =
    let h = state_of c.args.chip.now in sym (ap (with_dues h) (upto_none (dues h) h.hints.due))

pub loop-k-preserved : goal.loop-k-preserved
loop-k-preserved c =
    settled_more (state_of c.args.chip.now) (state_of c.loop-k.chip) (state_of c.set_due.new.chip) c.loop-k.k c.due_next-due.result
    c.loop-k.invariant c.due_next-due.ensures c.set_due.ensures

pub returns : goal.returns
returns c =
    let h = state_of c.args.chip.now in
    let four : c.loop-k.k ≡ 4 = omega arith in
    c.loop-k.invariant ∙ ap (λ n. with_dues h (upto n (dues h) h.hints.due)) four ∙ ap (with_dues h) (settled_all c.args.chip.now)
