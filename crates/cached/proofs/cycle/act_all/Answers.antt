-- Each turn is one core more.
use Rattle.std.proofs.Common.{◌≡◌, ℕ, false, get_or, sym, refl, ap, ◌∙◌, arith, length-set}
use Rattle.cores.specs.Loop.{each}
use Rattle.cached.specs.Layout.{state_of}
use Rattle.cached.specs.Puts.{all_acted, said_first}
use Rattle.cached.specs.Rv.{rv}
use Rattle.cached.specs.Soc.{act}
use Rattle.cached.proofs.Cycles.{acted_more, empty_row, none_after, said_more}
use Rattle.cached.proofs.cycle.act_all.Goals as goal

pub loop-k-init : goal.loop-k-init
unfolding each
loop-k-init c = (refl, refl, refl, λ j h. empty_row 4 j, λ j h. empty_row 8 j)

pub loop-k-preserved : goal.loop-k-preserved
loop-k-preserved c =
    let i = c.loop-k.invariant in (
      acted_more (act rv (λ j. get_or c.args.up j false)) c.loop-k.k (state_of c.args.chip.now) (state_of c.loop-k.chip) (state_of c.act-acted.new.chip) c.loop-k.wrote c.loop-k.did _ _ c.act-acted.result
          i.0 c.act-acted.ensures (omega arith) (omega arith) i.3 i.4 (said_more c.loop-k.k _ c.loop-k.said c.say.new.said c.say.ensures),
      length-set c.loop-k.wrote c.loop-k.k c.act-acted.result.wrote ∙ i.1,
      length-set c.loop-k.did c.loop-k.k c.act-acted.result.did ∙ i.2,
      none_after c.loop-k.wrote c.loop-k.k c.act-acted.result.wrote i.3,
      none_after c.loop-k.did c.loop-k.k c.act-acted.result.did i.4,
    )

pub returns : goal.returns
returns c =
    let i = c.loop-k.invariant in
    let four : c.loop-k.k ≡ 4 = omega arith in
    ap (λ (n : ℕ). (state_of c.loop-k.chip, all_acted c.loop-k.wrote (said_first n c.loop-k.said) c.loop-k.did)) (sym four)
    ∙ i.0
    ∙ ap (λ (n : ℕ). each (act rv (λ j. get_or c.args.up j false)) n (state_of c.args.chip.now)) four
