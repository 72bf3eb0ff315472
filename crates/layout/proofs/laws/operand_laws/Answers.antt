-- Each law is a lemma.
use Rattle.layout.proofs.Operands.{aligned_first, distances, high_low}
use Rattle.layout.proofs.laws.operand_laws.Goals as goal

pub returns : goal.returns
returns c = (high_low, (distances, aligned_first))
