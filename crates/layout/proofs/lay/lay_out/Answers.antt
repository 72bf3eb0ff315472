-- Memory is what the statements make of zeros.
use Rattle.std.proofs.Common.{arith}
use Rattle.std.proofs.lemmas.Grind.{common_steps}
use Rattle.layout.proofs.Theorems.{laid_out}
use Rattle.layout.specs.Layout.{size_of}
use Rattle.layout.proofs.lay.lay_out.Goals as goal

pub returns-then-is_empty-clause-meets : goal.returns-then-is_empty-clause-meets
returns-then-is_empty-clause-meets c = laid_out (size_of c.args.lines) c.args.symbols c.args.statements.now _ (grind (arith, common_steps)) (grind (arith, common_steps))
