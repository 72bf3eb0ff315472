-- A line is a block of eight words.
use Rattle.std.proofs.Common.{sym, ◌∙◌, arith}
use Rattle.words.proofs.Lines.{line_block}
use Rattle.board.proofs.layout.read_line.Goals as goal

pub returns : goal.returns
returns c = λ i. record { number = c.args.number; words = (c.at.ensures ∙ sym (line_block c.args.lines c.args.number c.args.board.now (omega arith))) i }
