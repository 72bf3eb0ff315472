-- A byte with no bit from the number of cores on.
use Rattle.std.proofs.Common.{sym, ◌∙◌, arith}
use Rattle.std.proofs.lemmas.Bool.{le-ltb}
use Rattle.image.proofs.Bits.{byte_not_beyond}
use Rattle.image.proofs.choices.beyond.Goals as goal

pub returns-else-cores-lt8 : goal.returns-else-cores-lt8
returns-else-cores-lt8 c = le-ltb c.args.cores 8 (omega arith) ∙ sym (byte_not_beyond c.args.byte c.args.cores (omega arith) (omega arith))
