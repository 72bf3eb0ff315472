-- Each turn does one event more; after the last all are done.
use Rattle.std.proofs.Common.{vec_items, sym, ◌∙◌, arith}
use Rattle.std.proofs.lemmas.Bool.{ltb-false}
use Rattle.std.proofs.lemmas.Grind.{common_steps}
use Rattle.cores.specs.Ports.{event_of}
use Rattle.reference.proofs.Rows.{performed_all, performed_next, performed_none}
use Rattle.reference.proofs.machines.Machines.run.Goals as goal

pub loop-event-init : goal.loop-event-init
loop-event-init c = (
  performed_none c.args.self.now c.args.memory.now (vec_items c.reserve.new.self),
  grind (arith, common_steps),
)

pub loop-event-preserved : goal.loop-event-preserved
loop-event-preserved c = (
  performed_next event_of c.args.events.now c.loop-event.event-index _ _ _ _ _ _ _ _ _ _ _ (omega arith) c.loop-event.invariant.0 c.happens-outcome.ensures c.push_reserved.ensures.items,
  omega arith,
)

pub returns : goal.returns
returns c = record {
  fits = ltb-false _ _ (sym c.is_too_large.ensures ∙ c.if-is_too_large.false);
  done = performed_all event_of c.args.events.now c.loop-event.event-index _ _ _ _ _ _ _ c.loop-event-test.false c.reserve.ensures.items c.loop-event.invariant.0;
  same = tt;
}
