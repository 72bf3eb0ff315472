-- The board refuses nothing, and what the chip and the steady board make of their words is one cycle.
use Rattle.std.proofs.Common.{map, ap, ◌∙◌}
use Rattle.cores.specs.Ports.{line_of}
use Rattle.system.proofs.Steps.{not_refused, ok_case, ok_if}
use Rattle.system.proofs.Timed.{chip_steady, puts_steady}
use Rattle.system.proofs.step.cycle_steady.Goals as goal

pub unwrap-requires : goal.unwrap-requires
unwrap-requires g c =
    let L = g.C.LentChip.lent in
    let come = ap (map line_of) c.as_slice.ensures.value ∙ ok_if _ c.due.result c.unwrap-come.result c.unwrap-come.ensures c.due.ensures.come in
    let e = (ok_case _ _ c.cycle.result c.unwrap-out.result c.unwrap-out.ensures c.cycle.ensures).1 in
    not_refused c.after_steady.result _ c.after_steady.ensures.fault
    (c.requires.1.1.fits c.unwrap-out.result c.cycle.new.said
    (puts_steady L c.args.chip.now c.cycle.new.words c.cycle.new.said c.unwrap-out.result _
    (chip_steady L c.args.lines c.args.chip.now c.args.board.now c.cycle.new.words c.cycle.new.said c.unwrap-out.result _ e come)))

pub returns : goal.returns
returns g c =
    let come = ap (map line_of) c.as_slice.ensures.value ∙ ok_if _ c.due.result c.unwrap-come.result c.unwrap-come.ensures c.due.ensures.come in
    let e = (ok_case _ _ c.cycle.result c.unwrap-out.result c.unwrap-out.ensures c.cycle.ensures).1 in
    record {
      chip_next = chip_steady g.C.LentChip.lent c.args.lines c.args.chip.now c.args.board.now c.cycle.new.words c.cycle.new.said c.unwrap-out.result _ e come;
      board_next = ok_if _ c.after_steady.result _ c.unwrap.ensures c.after_steady.ensures.after;
    }
