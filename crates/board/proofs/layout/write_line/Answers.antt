-- A line past the end of memory changes nothing.
use Rattle.std.proofs.Common.{◌≡◌, length, sym, refl, arith}
use Rattle.std.proofs.lemmas.List.{set_past}
use Rattle.words.specs.Parts.{lines}
use Rattle.words.proofs.Lines.{line_count}
use Rattle.board.proofs.layout.write_line.Goals as goal

pub returns-else-number-lines : goal.returns-else-number-lines
returns-else-number-lines c =
    let long : length (lines c.args.lines c.args.board.now) ≡ c.args.lines = line_count c.args.lines c.args.board.now in
    (sym (set_past (lines c.args.lines c.args.board.now) c.args.line.number c.args.line.words (omega arith)), (refl, refl))
