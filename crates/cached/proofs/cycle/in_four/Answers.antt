-- A place with a line is the next of the four; there are no more than four.
use Rattle.std.proofs.Common.{◌≡◌, ◌<◌, true, get_or, None, sym, refl, ◌∙◌, arith}
use Rattle.std.specs.Option.{is_some}
use Rattle.cached.proofs.Gathered.{gathered_all, gathered_line, gathered_none, has_room}
use Rattle.cached.proofs.Cycles.{empty_row}
use Rattle.cached.proofs.cycle.in_four.Goals as goal
use Rattle.cached.proofs.cycle.in_four.Goals.{then-is_some, else-is_some}

pub loop-place-init : goal.loop-place-init
loop-place-init c = (refl, refl, refl, λ j _. empty_row 4 j)

pub offset_bounds-four-n : goal.offset_bounds-four-n
offset_bounds-four-n c =
    let room = has_room c.args.row c.loop-place.place-index (omega arith) c.loop-place.n c.requires (sym c.is_some.ensures ∙ c.if-is_some.true) c.loop-place.invariant.1 in
    omega (arith, room)

pub bounds-four-n : goal.bounds-four-n
bounds-four-n c = has_room c.args.row c.loop-place.place-index (omega arith) c.loop-place.n c.requires (sym c.is_some.ensures ∙ c.if-is_some.true) c.loop-place.invariant.1

pub overflow_add-n : goal.overflow_add-n
overflow_add-n c =
    let room = has_room c.args.row c.loop-place.place-index (omega arith) c.loop-place.n c.requires (sym c.is_some.ensures ∙ c.if-is_some.true) c.loop-place.invariant.1 in
    record { fits = omega (arith, room) }

pub loop-place-preserved : goal.loop-place-preserved
loop-place-preserved c =
    let room : (e : ◌≡◌ (is_some (get_or c.args.row c.loop-place.place-index None)) true) → c.loop-place.n < 4
    = λ e. has_room c.args.row c.loop-place.place-index (omega arith) c.loop-place.n c.requires e c.loop-place.invariant.1 in
    elim c.if-is_some.branch [
      | then-is_some w ↦
          let e : is_some (get_or c.args.row c.loop-place.place-index None) ≡ true = sym c.is_some.ensures ∙ w.if-is_some.true in
          rw (w.four-is, w.n-is) (gathered_line c.args.row c.loop-place.place-index (omega arith) c.loop-place.four c.loop-place.n (room e) e c.loop-place.invariant)
      | else-is_some w ↦
          rw (w.four-is, w.n-is) (gathered_none c.args.row c.loop-place.place-index (omega arith) c.loop-place.four c.loop-place.n (sym c.is_some.ensures ∙ w.if-is_some.false) c.loop-place.invariant)
    ]

pub returns : goal.returns
returns c = gathered_all c.args.row c.loop-place.four c.loop-place.place-index c.loop-place.n (omega arith) c.loop-place.invariant
