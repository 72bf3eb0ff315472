-- Each turn is one core more.
use Rattle.std.proofs.Common.{◌≡◌, refl, ap, ◌∙◌, arith}
use Rattle.cores.specs.Loop.{each, silent}
use Rattle.cached.specs.Layout.{state_of}
use Rattle.cached.specs.Rv.{rv}
use Rattle.cached.specs.Soc.{take_due}
use Rattle.cached.proofs.Sequence.{each_more}
use Rattle.cached.proofs.reply.take_all.Goals as goal

pub loop-k-init : goal.loop-k-init
unfolding each
loop-k-init c = refl

pub loop-k-preserved : goal.loop-k-preserved
loop-k-preserved c =
    each_more (take_due rv) c.loop-k.k (state_of c.args.chip.now) (state_of c.loop-k.chip) (state_of c.take_due.new.chip) silent silent
    c.loop-k.invariant c.take_due.ensures

pub returns : goal.returns
returns c =
    let four : c.loop-k.k ≡ 4 = omega arith in
    c.loop-k.invariant ∙ ap (λ n. each (take_due rv) n (state_of c.args.chip.now)) four
