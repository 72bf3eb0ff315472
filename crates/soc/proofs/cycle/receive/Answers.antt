-- No line comes, or the first is taken.
use Rattle.std.proofs.Common.{sym, ap, ◌∙◌, arith}
use Rattle.std.proofs.lemmas.Bool.Decides.{nat_tests}
use Rattle.soc.specs.Layout.{state_of, with_shared}
use Rattle.soc.proofs.Outs.{received_first, received_none}
use Rattle.soc.proofs.cycle.receive.Goals as goal

pub returns-in_default : goal.returns-in_default
returns-in_default c = sym (received_none c.args.given.now (state_of c.args.chip.now) (grind (arith, nat_tests)))

pub returns : goal.returns
returns c =
    let h = state_of c.args.chip.now in
    c.set_control.ensures
    ∙ ap (with_shared h) c.with_line.ensures
    ∙ received_first c.args.given.now h c.control-before.result c.core.result c.fetches-code.result _ (grind (arith, nat_tests)) c.control-before.ensures.value c.core.ensures c.fetches-code.ensures.value
