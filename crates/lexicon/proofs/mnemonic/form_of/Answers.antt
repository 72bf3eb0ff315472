-- The row that is found is the first that has the name.
use Rattle.std.proofs.Common.{◌∙◌, ap}
use Rattle.std.specs.Str.{bytes_eq}
use Rattle.lexicon.specs.Rows.{first_entry}
use Rattle.lexicon.proofs.Rows.{entry_found}
use Rattle.lexicon.proofs.mnemonic.form_of.Goals as goal

pub returns-clause-value : goal.returns-clause-value
returns-clause-value c =
    c.found.ensures ∙ entry_found (λ row. bytes_eq row.0.now c.args.name.now) (λ row. row.1) c.as_slice.result.now
    ∙ ap (λ rows. first_entry (λ row. bytes_eq row.0.now c.args.name.now) (λ row. row.1) rows) c.as_slice.ensures
