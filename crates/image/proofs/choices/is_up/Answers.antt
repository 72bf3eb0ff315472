-- Bit k of the byte, by a shift.
use Rattle.std.proofs.Common.{sym, ◌∙◌, arith}
use Rattle.std.proofs.lemmas.Bool.{le-ltb}
use Rattle.image.proofs.Bits.{byte_down}
use Rattle.image.proofs.choices.is_up.Goals as goal

pub returns-else-core-lt8 : goal.returns-else-core-lt8
returns-else-core-lt8 c = le-ltb c.args.core 8 (omega arith) ∙ sym (byte_down c.args.raised c.args.core (omega arith) (omega arith))
