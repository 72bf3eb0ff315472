-- Each turn is one core more.
use Rattle.std.proofs.Common.{◌≡◌, ℕ, false, get_or, refl, ap, ◌∙◌, arith, length-set}
use Rattle.cores.specs.Loop.{each}
use Rattle.cores.specs.Ports.{event_of}
use Rattle.soc.specs.Layout.{state_of}
use Rattle.soc.specs.Rv.{rv}
use Rattle.soc.specs.Soc.{take_interrupt}
use Rattle.soc.specs.Turn.{only_did}
use Rattle.soc.proofs.Outs.{each_more, empty_row, empty_set, somes_set}
use Rattle.soc.proofs.cycle.take_interrupts.Goals as goal

pub loop-k-init : goal.loop-k-init
unfolding each
loop-k-init c = (refl, λ j h. empty_row 8 j, refl, refl)

pub loop-k-preserved : goal.loop-k-preserved
loop-k-preserved c =
    let i = c.loop-k.invariant in
    let more = each_more (take_interrupt rv (λ j. get_or c.args.up j false)) c.loop-k.k (state_of c.args.chip.now) (state_of c.loop-k.chip) _ _ _ i.2 i.3 c.take_interrupt.ensures.state c.take_interrupt.ensures.out in (
      length-set c.loop-k.did c.loop-k.k c.take_interrupt.result ∙ i.0,
      empty_set c.loop-k.did c.loop-k.k c.take_interrupt.result i.1,
      ap (λ x. x.0) more,
      ap only_did (somes_set event_of c.loop-k.did c.loop-k.k c.take_interrupt.result (omega arith) i.1) ∙ ap (λ x. x.1) more,
    )

pub returns : goal.returns
returns c =
    let i = c.loop-k.invariant in
    let four : c.loop-k.k ≡ 4 = omega arith in
    let of : ℕ → _ = λ n. each (take_interrupt rv (λ j. get_or c.args.up j false)) n (state_of c.args.chip.now) in
    record { state = i.2 ∙ ap (λ n. (of n).0) four; out = i.3 ∙ ap (λ n. (of n).1) four; row = λ j h. i.1 j (omega arith) }
