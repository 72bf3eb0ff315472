-- The board refuses nothing, and what the chip and the board make of their words is one cycle.
use Rattle.std.proofs.Common.{map, ap, ◌∙◌}
use Rattle.cores.specs.Ports.{line_of}
use Rattle.system.specs.Cycle.{choice}
use Rattle.system.proofs.Steps.{not_refused, ok_case, ok_if, puts_out, next_both}
use Rattle.system.proofs.step.cycle.Goals as goal

pub unwrap-requires : goal.unwrap-requires
unwrap-requires g c =
    let come = ap (map line_of) c.as_slice.ensures.value ∙ ok_if _ c.given.result c.unwrap-come.result c.unwrap-come.ensures c.given.ensures.come in
    let e = (ok_case _ _ c.cycle.result c.unwrap-out.result c.unwrap-out.ensures c.cycle.ensures).1 in
    not_refused c.after.result _ c.after.ensures.fault
    (c.requires.1.1.fits c.unwrap-out.result c.cycle.new.said
    (puts_out g.C.LentChip.lent c.args.lines c.args.chip.now c.args.board.now (choice c.args.places.now c.args.up) c.unwrap-out.result c.cycle.new.said c.cycle.new.words _ e come))

pub returns : goal.returns
returns g c =
    let come = ap (map line_of) c.as_slice.ensures.value ∙ ok_if _ c.given.result c.unwrap-come.result c.unwrap-come.ensures c.given.ensures.come in
    let e = (ok_case _ _ c.cycle.result c.unwrap-out.result c.unwrap-out.ensures c.cycle.ensures).1 in
    next_both g.C.LentChip.lent c.args.lines c.args.chip.now c.args.board.now (choice c.args.places.now c.args.up) c.unwrap-out.result c.cycle.new.said c.cycle.new.words _ e come
    c.after.new.board (ok_if _ c.after.result _ c.unwrap.ensures c.after.ensures.after)
