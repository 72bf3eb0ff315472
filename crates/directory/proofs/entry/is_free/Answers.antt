-- None of the four has the line.
use Rattle.std.proofs.Common.{not, ◌∙◌, refl, rules}
use Rattle.std.proofs.lemmas.Iterator.{YieldsList-from_range}
use Rattle.std.proofs.lemmas.Iterator.Search.{all_from_yields_List}
use Rattle.directory.specs.Directory.{keeps}
use Rattle.directory.specs.Words.{entries_of}
use Rattle.directory.proofs.Loops.{free_four}
use Rattle.directory.proofs.entry.is_free.Goals as goal

pub returns : goal.returns
returns c =
    let e = entries_of c.args.entries.now in
    all_from_yields_List (λ j. not (keeps e c.args.line j)) _ _ c.all.result c.all.ensures.ran (YieldsList-from_range 0 4 4 refl refl) (λ x b q k. search rules)
    ∙ free_four e c.args.line
