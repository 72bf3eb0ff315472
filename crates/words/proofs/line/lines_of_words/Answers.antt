-- The laws of memory's lines.
use Rattle.words.proofs.Lines.{line_block, line_count, line_set, line_word, line_written}
use Rattle.words.proofs.line.lines_of_words.Goals as goal

pub returns : goal.returns
returns c = (line_count, (line_word, (line_set, (line_block, line_written))))
