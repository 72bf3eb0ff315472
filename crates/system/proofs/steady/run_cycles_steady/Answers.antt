-- Each turn of the loop is one cycle more.
use Rattle.std.proofs.Common.{sym, ap, ◌∙◌, inr, arith, below_none, below_more}
use Rattle.board.specs.Layout.{memory_of}
use Rattle.system.proofs.Steps.{ok_case}
use Rattle.system.proofs.Timed.{steady_begin, ran_more, ran_fits_steady}
use Rattle.system.proofs.steady.run_cycles_steady.Goals as goal

pub loop-done-init : goal.loop-done-init
loop-done-init g c = (
  steady_begin g.C.LentChip.lent c.args.header c.args.late c.args.chip.now c.args.board.now (g.L.Listener.heard c.args.listener.now) c.requires.0,
  below_none _,
)

pub returns-then-unwrap : goal.returns-then-unwrap
returns-then-unwrap g c =
    let i = c.loop-done.invariant in
    record {
      enough = record {
        asked = omega arith;
        before = i.1;
        over = inr (ap g.C.LentChip.lent.off (sym i.0.state) ∙ sym (ok_case _ _ c.all_stopped.result _ c.unwrap.ensures c.all_stopped.ensures).1 ∙ c.if-unwrap.true);
      };
      ran = i.0;
    }

pub cycle_steady-out-requires : goal.cycle_steady-out-requires
cycle_steady-out-requires g c = (
  omega arith,
  (
    omega arith,
    ran_fits_steady g.C.LentChip.lent c.args.header.cores c.args.late (memory_of c.args.header.lines c.args.board.now) g.met.C.LentChip.inside c.args.header.lines
        c.loop-done.done c.loop-done.chip c.loop-done.board (g.L.Listener.heard c.args.listener.now) (g.L.Listener.heard c.loop-done.listener)
        c.loop-done.invariant.0 c.requires.0.some_core c.requires.0.few_cores c.requires.0.proper (omega (arith, c.requires.0.long)),
  ),
)

pub loop-done-preserved : goal.loop-done-preserved
loop-done-preserved g c =
    let i = c.loop-done.invariant in (
      ran_more g.C.LentChip.lent c.args.header.cores c.args.late (memory_of c.args.header.lines c.args.board.now) c.args.header.lines
          c.loop-done.done c.loop-done.chip c.loop-done.board c.cycle_steady-out.new.chip c.cycle_steady-out.new.board
          (g.L.Listener.heard c.args.listener.now) (g.L.Listener.heard c.loop-done.listener) (g.L.Listener.heard c.hear.new.self)
          c.cycle_steady-out.result c.cycle_steady-out.new.said i.0 c.cycle_steady-out.ensures c.in_ok-hear.ensures,
      below_more _ _ i.1 (ap g.C.LentChip.lent.off (sym i.0.state) ∙ sym (ok_case _ _ c.all_stopped.result _ c.unwrap.ensures c.all_stopped.ensures).1 ∙ c.if-unwrap.false),
    )
