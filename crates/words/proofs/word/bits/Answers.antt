-- Past its end a word has no bits, and a field as wide as a word is all that is left of it.
use Rattle.words.proofs.Fields.{field_all, field_past}
use Rattle.words.proofs.word.bits.Goals as goal

pub returns-then-low-ge32 : goal.returns-then-low-ge32
returns-then-low-ge32 c = field_past _ _ _ c.ranges.word.fits c.if-low-ge32.true

pub returns-then-size-ge32 : goal.returns-then-size-ge32
returns-then-size-ge32 c = field_all _ _ _ c.ranges.word.fits c.if-size-ge32.true
