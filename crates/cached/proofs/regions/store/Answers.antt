-- A word of its own cache is written, and all others stay.
use Rattle.std.proofs.Common.{◌≡◌, ◌+◌, ◌-◌, ◌*◌, ap, ◌∙◌, arith}
use Rattle.cache.specs.Own.{with_own}
use Rattle.cache.proofs.Own.{stored_own}
use Rattle.cached.specs.Layout.{state_of, with_slots}
use Rattle.cached.proofs.Written.{own_slots, wrote_own}
use Rattle.cached.proofs.regions.store.Goals as goal

pub returns : goal.returns
returns c =
    let e : (1389 + 640 * c.args.k) - (749 + 640 * c.args.k) ≡ 640 = omega arith in
    let w = c.args.chip.now in
    let k = c.args.k in
    wrote_own w c.store_own.new.words k _ (omega arith) e (omega arith) (omega arith)
    ∙ ap (λ g. with_slots (state_of w) (with_own k (state_of w).lines.slot g)) c.store_own.ensures
    ∙ ap (with_slots (state_of w)) (stored_own k (state_of w).lines.slot _ (own_slots w k _ (omega arith) e) c.args.number c.args.value)
