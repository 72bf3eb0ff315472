-- A core that fetches nothing stops, and lacks nothing; one that has its words does what the specification says.
use Rattle.std.proofs.Common.{◌≡◌, Some, None, sym, ap, ◌∙◌}
use Rattle.rv32.specs.Decode.{decode}
use Rattle.rv32.specs.Execute.{fetch}
use Rattle.rv32.proofs.Laws.{not_done}
use Rattle.soc.specs.Turn.{words_in}
use Rattle.soc.proofs.Attempt.{data_lacked, done_with, none_lacked}
use Rattle.soc.proofs.control.Control.attempt.Goals as goal

pub returns-in_default : goal.returns-in_default
returns-in_default c =
    let e : fetch c.args.self.size c.args.core ≡ None = sym c.fetches.ensures.value ∙ c.in_default.is in
    (none_lacked c.args.self c.args.core e, sym (not_done c.args.self.size c.args.core (words_in c.args.self) e))

pub returns : goal.returns
returns c =
    let s = c.args.self in
    let e : fetch s.size c.args.core ≡ Some c.in-Some.number = sym c.fetches.ensures.value ∙ c.in-Some.is in
    let i = c.decoded-instruction.result in
    let p : i ≡ decode (words_in s c.in-Some.number) = c.decoded-instruction.ensures ∙ ap decode c.word.ensures in
    let had = c.in_ok-word.ensures in (
      data_lacked s c.args.core c.in-Some.number i c.needs.result e (sym c.holds.ensures ∙ c.if-not-holds.false) p c.needs.ensures.value ∙ had.0,
      done_with s c.args.core c.in-Some.number i c.needs.result c.in_ok-word.word c.executes.result e p c.needs.ensures.value had.1 c.executes.ensures.value,
    )
