-- Each turn reads one word more.
use Rattle.std.proofs.Common.{arith}
use Rattle.image.proofs.Words.{read_more, rest_more, read_all}
use Rattle.image.proofs.memory.read_words.Goals as goal

pub loop-i-preserved : goal.loop-i-preserved
loop-i-preserved c = (
  read_more _ c.loop-i.memory c.loop-i.i _ c.word_at.ensures (omega arith) (omega arith) c.loop-i.invariant.0,
  rest_more c.loop-i.memory c.args.memory.now c.loop-i.i _ c.loop-i.invariant.1,
)

pub returns : goal.returns
returns c = read_all c.args.bytes.now _ _ _ (omega arith) c.loop-i.invariant.0 c.loop-i.invariant.1
