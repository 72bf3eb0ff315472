-- Each turn of the loop is one cycle more.
use Rattle.std.proofs.Common.{◌≡◌, ℕ, ◌+◌, sym, subst, add-zero, add_assoc, ◌∙◌, arith}
use Rattle.std.proofs.lemmas.Result.{MatchResult-from_err}
use Rattle.system.specs.Steady.{CutSteady, RanSteady}
use Rattle.system.proofs.Timed.{ran_more, ran_fits_steady}
use Rattle.system.proofs.steady.go_on_steady.Goals as goal

pub loop-init : goal.loop-init
loop-init g c = λ m k start r.
    subst (λ (j : ℕ). RanSteady g.C.LentChip.lent c.args.header.cores c.args.header.lines m c.args.late j c.args.chip.now c.args.board.now start (g.L.Listener.heard c.args.listener.now)) (sym (add-zero k)) r

pub cycle_steady-out-requires : goal.cycle_steady-out-requires
cycle_steady-out-requires g c =
    let u = c.requires.0 in (
      omega arith,
      (
        omega arith,
        ran_fits_steady g.C.LentChip.lent c.args.header.cores c.args.late u.memory_on g.met.C.LentChip.inside c.args.header.lines
            (u.cycles + c.loop.counter) c.loop.chip c.loop.board u.start (g.L.Listener.heard c.loop.listener)
            (c.loop.invariant u.memory_on u.cycles u.start u.ran) u.some_core u.few_cores u.proper (omega (arith, u.long)),
      ),
    )

pub loop-preserved : goal.loop-preserved
loop-preserved g c = λ m k start r.
    subst (λ (j : ℕ). RanSteady g.C.LentChip.lent c.args.header.cores c.args.header.lines m c.args.late j c.cycle_steady-out.new.chip c.cycle_steady-out.new.board start (g.L.Listener.heard c.hear.new.self))
    (add_assoc k c.loop.counter 1)
    (ran_more g.C.LentChip.lent c.args.header.cores c.args.late m c.args.header.lines
    (k + c.loop.counter) c.loop.chip c.loop.board c.cycle_steady-out.new.chip c.cycle_steady-out.new.board start (g.L.Listener.heard c.loop.listener) (g.L.Listener.heard c.hear.new.self)
    c.cycle_steady-out.result c.cycle_steady-out.new.said (c.loop.invariant m k start r) c.cycle_steady-out.ensures c.in_ok-hear.ensures)

-- the listener refused a cycle
pub returns-in_err-hear : goal.returns-in_err-hear
returns-in_err-hear g c = λ m k start r.
    MatchResult-from_err c.from_residual.result
    (λ _. RanSteady g.C.LentChip.lent c.args.header.cores c.args.header.lines m c.args.late (k + c.args.cycles) c.cycle_steady-out.new.chip c.cycle_steady-out.new.board start (g.L.Listener.heard c.hear.new.self))
    (λ _. CutSteady g.C.LentChip.lent c.args.header.cores m c.args.late start (g.L.Listener.heard c.hear.new.self))
    c.from_residual.ensures.0
    (λ _. (k + c.loop.counter, c.in_err-hear.ensures ∙ (c.loop.invariant m k start r).heard))

pub returns : goal.returns
returns g c = λ m k start r.
    let e : c.loop.counter ≡ c.args.cycles = omega arith in
    subst (λ (j : ℕ). RanSteady g.C.LentChip.lent c.args.header.cores c.args.header.lines m c.args.late (k + j) c.loop.chip c.loop.board start (g.L.Listener.heard c.loop.listener)) e (c.loop.invariant m k start r)
