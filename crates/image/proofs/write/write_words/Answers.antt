-- Each turn writes four bytes more.
use Rattle.std.proofs.Common.{◌≡◌, ◌+◌, ◌-◌, ◌*◌, get_or, ◌∙◌, arith}
use Rattle.image.specs.Memory.{word_bytes}
use Rattle.image.proofs.Writes.{write_more, past_more, write_all}
use Rattle.image.proofs.write.write_words.Goals as goal

pub loop-i-preserved : goal.loop-i-preserved
loop-i-preserved c =
    let is : c.copy_from_slice.new.self ≡ word_bytes (get_or c.args.memory.now c.loop-i.i 0) = c.copy_from_slice.ensures.after ∙ c.to_le_bytes.ensures in
    let four : 13 + 4 * c.loop-i.i - (9 + 4 * c.loop-i.i) ≡ 4 = omega arith in (
      write_more c.args.memory.now c.loop-i.bytes c.loop-i.i _ _ _ (omega arith) (omega arith) is c.loop-i.invariant.0,
      past_more c.args.memory.now c.loop-i.bytes c.loop-i.i c.args.bytes.now _ _ four (omega arith) (rw (is, four)) c.loop-i.invariant.1,
    )

pub returns : goal.returns
returns c = write_all c.args.memory.now c.loop-i.bytes c.loop-i.i c.args.bytes.now (omega arith) c.loop-i.invariant.0 c.loop-i.invariant.1
