-- Nobody among the four is asked.
use Rattle.std.proofs.Common.{refl, rules}
use Rattle.std.proofs.lemmas.Iterator.{YieldsList-from_range}
use Rattle.std.proofs.lemmas.Iterator.Search.{all_from_yields_List}
use Rattle.link.specs.Messages.{is_unasked}
use Rattle.link.specs.Words.{probes_of}
use Rattle.link.proofs.Rows.{nobody}
use Rattle.link.proofs.probe.nobody_asked.Goals as goal

pub returns : goal.returns
returns c =
    let w = c.args.probes.now in
    nobody w c.all.result (all_from_yields_List (λ k. is_unasked (probes_of w k)) _ _ c.all.result c.all.ensures.ran (YieldsList-from_range 0 4 4 refl refl) (λ x b q k. search rules))
