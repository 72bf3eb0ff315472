-- Each turn of the loop is one cycle more; at the end all are done.
use Rattle.std.proofs.Common.{arith}
use Rattle.board.specs.Layout.{memory_of}
use Rattle.system.specs.Cycle.{choice}
use Rattle.system.proofs.Runs.{far_start, far_next, far_all, ran_fits}
use Rattle.system.proofs.cycles.run_cycles.Goals as goal

pub loop-record-init : goal.loop-record-init
loop-record-init g c = (
  far_start g.C.LentChip.lent c.args.header c.args.choices.now c.args.chip.now c.args.board.now (g.L.Listener.heard c.args.listener.now) c.requires.0,
  omega arith,
  omega arith,
)

pub cycle-out-requires : goal.cycle-out-requires
cycle-out-requires g c =
    let s = c.loop-record.invariant.0 in (
      omega arith,
      (
        omega arith,
        ran_fits g.C.LentChip.lent g.met.C.LentChip.inside c.args.header.cores c.args.header.lines (memory_of c.args.header.lines c.args.board.now) (g.L.Listener.heard c.args.listener.now)
            s.before c.loop-record.chip c.loop-record.board (g.L.Listener.heard c.loop-record.listener) s.ran
            c.requires.0.some_core c.requires.0.few_cores c.requires.0.proper (omega (arith, c.requires.0.long)) (choice c.in-Some.record.given.now c.lines_up-up.result),
      ),
    )

pub loop-record-preserved : goal.loop-record-preserved
loop-record-preserved g c = (
  far_next g.C.LentChip.lent c.args.header (memory_of c.args.header.lines c.args.board.now) c.args.choices.now (g.L.Listener.heard c.args.listener.now)
      c.loop-record.at c.in-Some.record.end c.loop-record.done c.in-Some.record.raised c.lines_up-up.result c.in-Some.record.given.now c.loop-record.chip c.loop-record.board
      c.cycle-out.new.chip c.cycle-out.new.board (g.L.Listener.heard c.loop-record.listener) (g.L.Listener.heard c.hear.new.self)
      c.cycle-out.result c.cycle-out.new.said c.loop-record.invariant.0 c.in-Some.ensures c.lines_up-up.ensures c.cycle-out.ensures c.in_ok-hear.ensures,
  omega (arith, c.in-Some.ensures.later),
  c.in-Some.ensures.within,
)

pub returns : goal.returns
returns g c = far_all g.C.LentChip.lent c.args.header (memory_of c.args.header.lines c.args.board.now) c.args.choices.now (g.L.Listener.heard c.args.listener.now)
    c.loop-record.at c.loop-record.done c.loop-record.chip c.loop-record.board (g.L.Listener.heard c.loop-record.listener) c.loop-record.invariant.0 c.in_default.ensures
