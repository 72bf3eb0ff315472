-- None of the four requests is under way for the line.
use Rattle.std.proofs.Common.{not, ◌∙◌, refl, rules}
use Rattle.std.proofs.lemmas.Iterator.{YieldsList-from_range}
use Rattle.std.proofs.lemmas.Iterator.Search.{all_from_yields_List}
use Rattle.directory.specs.Directory.{busy}
use Rattle.directory.specs.Words.{requests_of}
use Rattle.directory.proofs.Loops.{unhurried_four}
use Rattle.directory.proofs.request.is_unhurried.Goals as goal

pub returns : goal.returns
returns c =
    let r = requests_of c.args.requests.now in
    all_from_yields_List (λ k. not (busy (r k) c.args.line)) _ _ c.all.result c.all.ensures.ran (YieldsList-from_range 0 4 4 refl refl) (λ x b q k. search rules)
    ∙ unhurried_four r c.args.line
