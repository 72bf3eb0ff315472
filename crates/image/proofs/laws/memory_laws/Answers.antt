-- The laws of memories.
use Rattle.image.proofs.Front.{all_taken, only_taken, judged, written_read}
use Rattle.image.proofs.Words.{words_by_place}
use Rattle.image.proofs.laws.memory_laws.Goals as goal

pub returns : goal.returns
returns c = record { all = all_taken; only = only_taken; lowest = judged; again = written_read; words = words_by_place }
