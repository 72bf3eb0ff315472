-- The laws of a word's parts.
use Rattle.words.proofs.Bytes.{field_replaced, four_bytes, two_halves}
use Rattle.words.proofs.Fields.{extended}
use Rattle.words.proofs.word.parts_of_a_word.Goals as goal

pub returns : goal.returns
returns c = (four_bytes, (two_halves, (field_replaced, extended)))
