-- The slice that is read is the row's part.
use Rattle.std.proofs.Common.{◌≡◌, ◌+◌, ◌-◌, ◌*◌, ap, ◌∙◌, arith}
use Rattle.words.proofs.Parts.{part_is}
use Rattle.board.specs.Layout.{row_in, row_of}
use Rattle.board.proofs.layout.row_at.Goals as goal

pub returns : goal.returns
unfolding row_of
returns c =
    let e : (8 * c.args.lines + 1024) - 8 * c.args.lines ≡ 1024 = omega arith in
    c.read_row.ensures ∙ ap row_in (part_is _ 1024 _ c.args.board.now e)
