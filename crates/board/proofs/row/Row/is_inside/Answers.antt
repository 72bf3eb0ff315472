-- The row is inside if each of its lines is.
use Rattle.std.proofs.Common.{ltb, rules, tests, ◌∙◌}
use Rattle.std.proofs.lemmas.Iterator.{YieldsList-from_slice}
use Rattle.std.proofs.lemmas.Iterator.Search.{all_from_yields_List}
use Rattle.board.specs.Rows.{line_in}
use Rattle.board.proofs.Rows.{all_inside}
use Rattle.board.proofs.row.Row.is_inside.Goals as goal

pub returns : goal.returns
returns c =
    all_from_yields_List (λ w. ltb (line_in w) c.args.lines) _ _ _ c.all.ensures.ran (YieldsList-from_slice c.args.self.now.waiting.items cc) (λ x b q k. search (rules, tests))
    ∙ all_inside line_in c.args.lines c.args.self.now.waiting.items
