-- All cycles were done from power-on, so the main promise holds.
use Rattle.std.proofs.Common.{sym}
use Rattle.system.proofs.Power.{finished}
use Rattle.system.proofs.Steps.{ok_case}
use Rattle.system.proofs.run.run.Goals as goal

pub returns : goal.returns
returns g c = (
  c.in_ok-header.header,
  (
    sym c.in_ok-header.ensures.value,
    finished g.C.LentChip.lent g.met.C.LentChip.promised c.in_ok-header.header c.args.memory.now c.args.choices.now c.power_on.new.chip c.power_on.new.board c.run_cycles.new.chip c.run_cycles.new.board
        (record { cycles = c.in_ok-cycles.cycles; stopped = c.unwrap-stopped.result })
        (g.L.Listener.heard c.args.listener.now) (g.L.Listener.heard c.run_cycles.new.listener)
        c.power_on.ensures.0 c.power_on.ensures.1 c.in_ok-cycles.ensures.0 c.in_ok-cycles.ensures.1
        (ok_case _ _ c.all_stopped.result _ c.unwrap-stopped.ensures c.all_stopped.ensures).1,
  ),
)
