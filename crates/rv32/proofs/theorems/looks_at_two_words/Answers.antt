-- The laws of what an instruction looks at.
use Rattle.rv32.proofs.Laws.{two_words, no_data, supplied_does, needs_within, stores_needed}
use Rattle.rv32.proofs.theorems.looks_at_two_words.Goals as goal

pub returns : goal.returns
returns c = (two_words, (no_data, (supplied_does, (needs_within, stores_needed))))
