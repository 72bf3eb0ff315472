-- The steps of a cycle, one after another.
use Rattle.std.proofs.Common.{false, map, get_or, ap, ◌∙◌}
use Rattle.cores.specs.Loop.{joined}
use Rattle.cores.specs.Ports.{event_of, line_of, somes}
use Rattle.soc.specs.Layout.{state_of}
use Rattle.soc.specs.Turn.{only_did, put_out}
use Rattle.soc.specs.declared.control.Control.{Control}
use Rattle.soc.proofs.Outs.{cycle_is}
use Rattle.soc.proofs.cycle.steps.Goals as goal

pub returns-clause-value : goal.returns-clause-value
returns-clause-value c =
    let row = only_did (somes event_of c.take_interrupts-did.result) in
    ap (λ o. (state_of c.act-act.new.chip, o)) (c.put_out.ensures ∙ ap (λ (s : Control). joined row (put_out s.turn c.act-act.result)) c.control-k.ensures.value)
    ∙ cycle_is (map line_of c.args.given.now) (λ k. get_or c.args.up k false) (state_of c.args.chip.now) (state_of c.receive.new.chip) (state_of c.take_interrupts-did.new.chip) (state_of c.act-act.new.chip) _ _
    c.receive.ensures c.take_interrupts-did.ensures.state c.take_interrupts-did.ensures.out c.act-act.ensures.state c.act-act.ensures.out
