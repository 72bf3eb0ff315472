-- The laws of registers.
use Rattle.std.proofs.Common.{refl}
use Rattle.rv32.proofs.Words.{keeps_words, interrupt_keeps_words, starts_with_words}
use Rattle.rv32.proofs.theorems.keeps_words.Goals as goal

pub returns : goal.returns
returns c = (keeps_words, (interrupt_keeps_words, (starts_with_words, λ c. refl)))
