-- One byte more, and none is left.
use Rattle.std.proofs.Common.{sym, ◌∙◌, arith}
use Rattle.layout.proofs.Bytes.{padding_more, padding_none}
use Rattle.layout.proofs.piece.pad.Goals as goal

pub loop-at-preserved : goal.loop-at-preserved
loop-at-preserved c = rw c.filler.ensures (sym (padding_more c.loop-at.memory c.loop-at.at c.args.to (omega arith)) ∙ c.loop-at.invariant)

pub returns : goal.returns
returns c = sym (padding_none c.loop-at.memory c.loop-at.at c.args.to (omega arith)) ∙ c.loop-at.invariant
