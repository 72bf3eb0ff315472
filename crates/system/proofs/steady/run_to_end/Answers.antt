-- Some core still goes after the cycles that were asked for; or every core has stopped, and memory is settled after those that follow.
use Rattle.std.proofs.Common.{ℕ, ◌+◌, sym, ◌∙◌, subst}
use Rattle.board.specs.Layout.{memory_of}
use Rattle.system.specs.Steady.{RanSteady}
use Rattle.system.proofs.Steps.{ok_case}
use Rattle.system.proofs.Timed.{all_stopped, still_goes}
use Rattle.system.proofs.steady.run_to_end.Goals as goal

pub returns-then-not-unwrap : goal.returns-then-not-unwrap
returns-then-not-unwrap g c =
    still_goes g.C.LentChip.lent g.met.C.LentChip.promised g.C.LentChip.DRAIN c.args.header.cores c.args.header.lines c.args.late c.args.cycles c.in_ok-done.done
    (memory_of c.args.header.lines c.args.board.now) c.run_cycles_steady.new.chip c.run_cycles_steady.new.board
    (g.L.Listener.heard c.args.listener.now) (g.L.Listener.heard c.run_cycles_steady.new.listener)
    c.requires.0.some_core c.requires.0.few_cores c.requires.0.proper c.in_ok-done.ensures
    (sym (ok_case _ _ c.all_stopped.result _ c.unwrap.ensures c.all_stopped.ensures).1 ∙ c.if-not-unwrap.true)

pub returns : goal.returns
returns g c =
    let L = g.C.LentChip.lent in
    let m = memory_of c.args.header.lines c.args.board.now in
    let start = g.L.Listener.heard c.args.listener.now in
    let log = g.L.Listener.heard c.go_on_steady.new.listener in
    let on : RanSteady L c.args.header.cores c.args.header.lines m c.args.late (c.in_ok-done.done + c.DRAIN.result) c.go_on_steady.new.chip c.go_on_steady.new.board start log =
    c.in_ok-go_on_steady.ensures m c.in_ok-done.done start c.in_ok-done.ensures.ran in
    all_stopped L g.met.C.LentChip.promised g.C.LentChip.DRAIN c.args.header.cores c.args.header.lines c.args.late c.args.cycles c.in_ok-done.done
    m c.run_cycles_steady.new.chip c.run_cycles_steady.new.board
    start (g.L.Listener.heard c.run_cycles_steady.new.listener)
    c.requires.0.some_core c.requires.0.few_cores c.requires.0.proper c.in_ok-done.ensures g.met.C.LentChip.drained
    c.go_on_steady.new.chip c.go_on_steady.new.board log
    (sym (ok_case _ _ c.all_stopped.result _ c.unwrap.ensures c.all_stopped.ensures).1 ∙ c.if-not-unwrap.false)
    (subst (λ (j : ℕ). RanSteady L c.args.header.cores c.args.header.lines m c.args.late (c.in_ok-done.done + j) c.go_on_steady.new.chip c.go_on_steady.new.board start log) c.DRAIN.ensures on)
