-- The first row that passes, and its entry.
use Rattle.std.proofs.Common.{◌≡◌, Bool, true, false, cond, List, [], ◌∷◌, Some, Option, refl, ap, ◌∙◌, find}
use Rattle.std.specs.Option.{option_map}
use Rattle.lexicon.specs.Rows.{first_entry}

either : {R A : Type 0} (f : R → A) (b : Bool) (x : R) (r : Option R) → option_map f (cond b (Some x) r) ≡ cond b (Some (f x)) (option_map f r)
either f true x r = refl
either f false x r = refl

pub entry_found : {R A : Type 0} (p : R → Bool) (f : R → A) (rows : List R) → option_map f (find p rows) ≡ first_entry p f rows
entry_found p f [] = refl
entry_found p f (row ∷ rows) = either f (p row) row (find p rows) ∙ ap (λ (r : Option _). cond (p row) (Some (f row)) r) (entry_found p f rows)
