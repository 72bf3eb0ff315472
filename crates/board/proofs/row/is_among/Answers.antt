-- A place is among those given if any of them is it.
use Rattle.std.proofs.Common.{eqb, rules, tests, ◌∙◌}
use Rattle.std.proofs.lemmas.Iterator.{YieldsList-from_slice}
use Rattle.std.proofs.lemmas.Iterator.Search.{any_from_yields_List}
use Rattle.board.proofs.Rows.{any_among}
use Rattle.board.proofs.row.is_among.Goals as goal

pub returns : goal.returns
returns c =
    any_from_yields_List (λ p. eqb c.args.i p) _ _ _ c.any.ensures.ran (YieldsList-from_slice c.args.places.now cc) (λ x b q k. search (rules, tests))
    ∙ any_among c.args.i c.args.places.now
