-- Those whose places are not given stay.
use Rattle.std.proofs.Common.{rules, ap, map, ◌∙◌}
use Rattle.board.specs.Rows.{line_in}
use Rattle.board.proofs.Rows.{stays, stays_kept}
use Rattle.board.proofs.row.Row.without.Goals as goal

pub returns : goal.returns
returns c = ap (map line_in) (c.chosen.ensures (stays c.args.places.now) (λ i w o h is post. search rules)) ∙ stays_kept c.args.places.now 0 c.args.self.now.waiting.items
