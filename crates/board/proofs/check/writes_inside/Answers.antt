-- The lines are inside if each of them is.
use Rattle.std.proofs.Common.{ltb, rules, tests, ◌∙◌}
use Rattle.std.specs.Option.{option_to_list}
use Rattle.std.proofs.lemmas.Iterator.{YieldsList-from_slice}
use Rattle.std.proofs.lemmas.Iterator.Adapters.{YieldsList-from_flatten}
use Rattle.std.proofs.lemmas.Iterator.Consumers.{YieldsList-at}
use Rattle.std.proofs.lemmas.Iterator.Search.{all_from_yields_List}
use Rattle.cores.specs.declared.port.Line.{Line}
use Rattle.board.proofs.Writes.{inside_all, of_place}
use Rattle.board.proofs.check.writes_inside.Goals as goal

pub returns : goal.returns
returns c =
    all_from_yields_List (λ (l : Line). ltb l.number c.args.lines) _ _ _ c.all.ensures.ran
    (YieldsList-from_flatten _ _ _ option_to_list (λ x j h. of_place j x.now h.0 h.1) (YieldsList-at c.flatten.ensures.source (YieldsList-from_slice c.args.writes.now cc)) c.flatten.ensures.front c.flatten.ensures.back c.flatten.ensures.done)
    (λ x b q k. search (rules, tests))
    ∙ inside_all c.args.lines c.args.writes.now
