-- Each turn is one core more.
use Rattle.std.proofs.Common.{◌≡◌, ap, ◌∙◌, arith}
use Rattle.cached.specs.Layout.{state_of}
use Rattle.cached.specs.Lines.{deliver_one}
use Rattle.cached.specs.Rv.{rv}
use Rattle.cached.specs.Soc.{with_lines_of}
use Rattle.cached.proofs.Arrivals.{one_more, one_none}
use Rattle.cached.proofs.deliver.deliver_one.Goals as goal

pub loop-k-init : goal.loop-k-init
loop-k-init c = one_none (state_of c.args.chip.now) c.args.line.number c.args.line.words

pub loop-k-preserved : goal.loop-k-preserved
loop-k-preserved c =
    one_more (state_of c.args.chip.now) (state_of c.loop-k.chip) (state_of c.deliver_to.new.chip) c.loop-k.k c.args.line.number c.args.line.words
    c.loop-k.invariant c.deliver_to.ensures

pub returns : goal.returns
returns c =
    let h = state_of c.args.chip.now in
    let four : c.loop-k.k ≡ 4 = omega arith in
    c.loop-k.invariant ∙ ap (λ n. with_lines_of rv (deliver_one n c.args.line.number c.args.line.words h.lines) h) four
