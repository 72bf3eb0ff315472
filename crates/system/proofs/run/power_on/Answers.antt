-- The words are those of a chip and a board at power-on, with the memory that was brought.
use Rattle.std.proofs.Common.{ap, ◌∙◌, arith, Result}
use Rattle.words.specs.Parts.{lines}
use Rattle.cores.specs.Board.{Board}
use Rattle.image.specs.Memory.{loaded}
use Rattle.image.specs.declared.memory.Header.{Header}
use Rattle.image.specs.declared.refusal.Refusal.{Refusal}
use Rattle.system.proofs.Power.{memory_brought, memory_proper}
use Rattle.system.proofs.Steps.{ok_case, ok_if}
use Rattle.system.proofs.run.power_on.Goals as goal

pub returns : goal.returns
returns g c =
    let h = c.args.header in
    let begun = (ok_if _ c.start.result _ c.unwrap-2.ensures c.start.ensures.after).0 in
    let brought = c.load.ensures.after ∙ ap (λ (r : Result Header Refusal). loaded r c.args.memory.now c.args.board.now) c.unwrap.ensures in (
      record {
        some_core = c.requires.1.0.some_core;
        few_cores = c.requires.1.0.few_cores;
        state = (ok_case _ _ c.fresh.result _ c.unwrap-3.ensures c.fresh.ensures).1;
        nobody = ap (λ (b : Board). b.waiting) begun;
        proper = memory_proper h.lines c.start.new.board c.requires.1.0.some_line c.requires.1.0.few_lines (omega arith) (λ i. (c.type_inv.board i).fits);
        long = omega arith;
      },
      ap (λ (b : Board). b.memory) begun ∙ ap (lines h.lines) brought ∙ memory_brought h c.args.memory.now _ c.requires.1.0,
    )
