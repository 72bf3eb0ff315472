-- A line that comes now is one of memory's.
use Rattle.std.proofs.Common.{rules, ap, map, ◌∙◌, arith}
use Rattle.cores.specs.Ports.{line_of}
use Rattle.board.specs.Layout.{memory_of}
use Rattle.board.specs.Rows.{comes_at}
use Rattle.board.proofs.Rows.{comes_handed, line_inside}
use Rattle.board.proofs.coming.at_places.Goals as goal

pub chosen-requires : goal.chosen-requires
chosen-requires c = (omega arith, λ i w h is. (c.requires.0, line_inside c.args.lines c.args.row.now.waiting.items c.requires.1 i w h is))

pub returns : goal.returns
returns c =
    let m = memory_of c.args.lines c.args.board.now in
    ap (map line_of) (c.chosen.ensures (comes_at m c.args.places.now) (λ i w o h is post. search rules)) ∙ comes_handed m c.args.places.now 0 c.args.row.now.waiting.items
