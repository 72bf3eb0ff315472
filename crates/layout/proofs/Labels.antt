-- A label's value is where it stands.
use Rattle.std.proofs.Common.{◌≡◌, ℕ, ◌<◌, false, ◌≢◌, List, [], ◌∷◌, ◌++◌, length, get_or, set, sym, refl, ◌∙◌, arith}
use Rattle.std.proofs.lemmas.List.{get_or-set_other, get_or-set_same, length-set}
use Rattle.std.proofs.lemmas.Bool.{eqb-false, or_parts}
use Rattle.layout.specs.Laws.{is_label, labelled}
use Rattle.layout.specs.Layout.{end, named, next, values_from}
use Rattle.layout.specs.declared.statement.Statement.{Statement}
use Rattle.layout.specs.declared.statement.Statement.TheVariants.{Label, Code, Data, Align, Origin}

named_length : (here : ℕ) (s : Statement) (values : List ℕ) → length (named here s values) ≡ length values
named_length here (Label k) values = length-set values k here
named_length here (Code i o p) values = refl
named_length here (Data w p) values = refl
named_length here (Align bits) values = refl
named_length here (Origin address) values = refl

-- another statement leaves a symbol's value
named_kept : (here symbol : ℕ) (s : Statement) (values : List ℕ) → is_label symbol s ≡ false → get_or (named here s values) symbol 0 ≡ get_or values symbol 0
named_kept here symbol (Label k) values no_label = let ne : symbol ≢ k = λ e. eqb-false k symbol no_label (sym e) in get_or-set_other values k symbol here 0 ne
named_kept here symbol (Code i o p) values no_label = refl
named_kept here symbol (Data w p) values no_label = refl
named_kept here symbol (Align bits) values no_label = refl
named_kept here symbol (Origin address) values no_label = refl

module _ (size : ℕ) where
  values_kept : (here symbol : ℕ) (statements : List Statement) (values : List ℕ) → labelled symbol statements ≡ false → get_or (values_from size here statements values) symbol 0 ≡ get_or values symbol 0
  unfolding values_from labelled
  values_kept here symbol [] values none = refl
  values_kept here symbol (s ∷ rest) values none =
      let both = or_parts (is_label symbol s) (labelled symbol rest) none in
      values_kept (next size here s) symbol rest (named here s values) both.1 ∙ named_kept here symbol s values both.0

  pub values_label : (here symbol : ℕ) (before after : List Statement) (values : List ℕ) → symbol < length values → labelled symbol after ≡ false →
      get_or (values_from size here (before ++ Label symbol ∷ after) values) symbol 0 ≡ end size here before
  unfolding values_from end
  values_label here symbol [] after values h none = values_kept here symbol after (set values symbol here) none ∙ get_or-set_same values symbol here 0 h
  values_label here symbol (s ∷ before) after values h none =
      let long = named_length here s values in
      values_label (next size here s) symbol before after (named here s values) (omega arith) none
