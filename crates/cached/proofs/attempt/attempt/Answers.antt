-- A core that fetches nothing stops, and lacks nothing; one that has its words does what the specification says.
use Rattle.std.proofs.Common.{◌≡◌, Some, None, sym, ap, ◌∙◌}
use Rattle.rv32.specs.Decode.{decode}
use Rattle.rv32.specs.Execute.{fetch}
use Rattle.rv32.proofs.Laws.{not_done}
use Rattle.cache.specs.Slots.{cached}
use Rattle.cache.specs.Words.{slots_of}
use Rattle.cached.proofs.Lacking.{data_lacked, done_with, nothing_lacked}
use Rattle.cached.proofs.attempt.attempt.Goals as goal

pub returns-in_default : goal.returns-in_default
returns-in_default c =
    let e : fetch c.args.size c.args.core ≡ None = sym c.fetches.ensures.value ∙ c.in_default.is in
    let f = slots_of c.args.cache.now in
    (nothing_lacked c.args.size c.args.core f e, sym (not_done c.args.size c.args.core (cached f 0) e))

pub returns : goal.returns
returns c =
    let n = c.args.size in
    let r = c.args.core in
    let f = slots_of c.args.cache.now in
    let x = c.in-Some.number in
    let i = c.decoded-instruction.result in
    let m = c.needs-need.result in
    let e : fetch n r ≡ Some x = sym c.fetches.ensures.value ∙ c.in-Some.is in
    let p : i ≡ decode (cached f 0 x) = c.decoded-instruction.ensures ∙ ap decode c.word.ensures in (
      data_lacked n r f x i m e c.in_ok-require.ensures p c.needs-need.ensures.value ∙ sym c.in_ok-require-2.ensures,
      done_with n r f x i m c.operand.result c.executes.result e p c.needs-need.ensures.value c.operand.ensures c.executes.ensures.value,
    )
