-- A core that fetches nothing stops; one that has the word that it needs does what the specification says.
use Rattle.std.proofs.Common.{◌≡◌, ℕ, List, sym, ap, ◌∙◌, subst}
use Rattle.rv32.proofs.Laws.{done, not_done}
use Rattle.rv32.specs.Decode.{decode}
use Rattle.rv32.specs.Execute.{did, need as needed}
use Rattle.rv32.specs.Laws.{Supplied}
use Rattle.cores.specs.Machines.{word}
use Rattle.words.specs.Parts.{lines}
use Rattle.reference.proofs.Agree.{supplied_lines, word_lines}
use Rattle.reference.proofs.run.effect_of.Goals as goal

pub returns-in_default : goal.returns-in_default
returns-in_default c = record {
  value = sym (not_done c.args.lines c.args.core (word (lines c.args.lines c.args.memory.now)) (sym c.fetches.ensures.value ∙ c.in_default.is));
  within = tt;
}

pub returns : goal.returns
returns c =
    let n : ℕ = c.args.lines in
    let w : List ℕ = c.args.memory.now in
    let i = c.decoded-instruction.result in
    let read : i ≡ decode (word (lines n w) c.in-Some.number)
    = c.decoded-instruction.ensures ∙ ap decode (sym (word_lines n c.in-Some.number w c.in-Some.ensures.within)) in
    let got : Supplied (word (lines n w)) c.operand-word.result (needed n c.args.core i)
    = subst (Supplied (word (lines n w)) c.operand-word.result) c.needs.ensures.value (supplied_lines n c.operand-word.result w c.needs.result c.needs.ensures.within c.operand-word.ensures) in
    record {
      value =
          ap did c.executes.ensures.value
          ∙ sym (done n c.args.core (word (lines n w)) c.in-Some.number i c.operand-word.result (sym c.fetches.ensures.value ∙ c.in-Some.is) read got);
      within = c.executes.ensures.within;
    }
