-- Those that have cycles left stay, a cycle nearer.
use Rattle.std.proofs.Common.{rules, ap, map, ◌∙◌}
use Rattle.board.specs.Rows.{pair_in}
use Rattle.board.proofs.Rows.{nearer, nearer_later}
use Rattle.board.proofs.row.Row.later.Goals as goal

pub returns : goal.returns
returns c = ap (map pair_in) (c.chosen.ensures nearer (λ i w o h is post. search rules)) ∙ nearer_later 0 c.args.self.now.waiting.items
