-- Each turn is one core more.
use Rattle.std.proofs.Common.{◌≡◌, [], refl, ap, ◌∙◌, arith, length-set}
use Rattle.cores.specs.Loop.{each}
use Rattle.cores.specs.Ports.{line_of}
use Rattle.cached.specs.Layout.{state_of}
use Rattle.cached.specs.Puts.{all_writes, only_writes}
use Rattle.cached.specs.Rv.{rv}
use Rattle.cached.specs.Soc.{answer_probe}
use Rattle.cached.proofs.Cycles.{empty_row, none_after}
use Rattle.cached.proofs.Sequence.{each_more, somes_set}
use Rattle.cached.proofs.reply.answer_all.Goals as goal

pub loop-k-init : goal.loop-k-init
unfolding each
loop-k-init c = (refl, λ j h. empty_row 4 j, refl)

pub loop-k-preserved : goal.loop-k-preserved
loop-k-preserved c =
    let i = c.loop-k.invariant in
    let h = state_of c.args.chip.now in
    let s = state_of c.loop-k.chip in
    let t = state_of c.answer_probe.new.chip in
    let w = c.answer_probe.result in (
      length-set c.loop-k.written c.loop-k.k w ∙ i.0,
      none_after c.loop-k.written c.loop-k.k w i.1,
      ap (λ ws. (t, record { asks = []; writes = ws; says = []; did = [] })) (somes_set line_of c.loop-k.written c.loop-k.k w (omega arith) i.1)
          ∙ each_more (answer_probe rv) c.loop-k.k h s t (all_writes c.loop-k.written) (only_writes w) i.2 c.answer_probe.ensures,
    )

pub returns : goal.returns
returns c =
    let four : c.loop-k.k ≡ 4 = omega arith in
    c.loop-k.invariant.2 ∙ ap (λ n. each (answer_probe rv) n (state_of c.args.chip.now)) four
