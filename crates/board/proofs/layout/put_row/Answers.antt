-- The slice that is written is the row's part, and no other.
use Rattle.std.proofs.Common.{◌≡◌, ◌+◌, ◌-◌, ◌*◌, ◌∙◌, arith}
use Rattle.board.proofs.Places.{row_written}
use Rattle.board.proofs.layout.put_row.Goals as goal

pub returns : goal.returns
returns c =
    let k : (8 * c.args.lines + 1024) - 8 * c.args.lines ≡ 1024 = omega arith in
    let w = row_written c.args.lines _ c.args.board.now c.write_row.new.words (omega arith) k (omega arith) in
    (w.0 ∙ c.write_row.ensures, (w.1, w.2))
