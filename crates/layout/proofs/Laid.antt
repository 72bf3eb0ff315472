-- What memory holds once all statements are written.
use Rattle.std.proofs.Common.{◌≡◌, ℕ, ◌+◌, ◌<◌, ◌≤◌, ◌⊎◌, List, [], ◌∷◌, ◌++◌, length, get_or, Ok, Err, Result, refl, ap, ◌∙◌, inl, arith}
use Rattle.std.specs.Result.{result_err}
use Rattle.layout.specs.Layout.{bytes_in, end, fault_at, faults_from, laid_from, next, outcome, written}
use Rattle.layout.specs.declared.fault.Fault.{Fault}
use Rattle.layout.specs.declared.fault.Located.{Located}
use Rattle.layout.specs.declared.statement.Statement.{Statement}
use Rattle.layout.proofs.Bytes.{written_length, written_other, written_there}
use Rattle.layout.proofs.Places.{next_inside, next_up, room}

module _ (size : ℕ) (values : List ℕ) where
  -- the bytes of a statement here
  abbrev bytes : ℕ → Statement → List ℕ
  bytes here s = bytes_in (outcome size values here s)

  pub laid_length : (here : ℕ) (statements : List Statement) (memory : List ℕ) → length (laid_from size values here statements memory) ≡ length memory
  unfolding laid_from
  laid_length here [] memory = refl
  laid_length here (s ∷ rest) memory = laid_length (next size here s) rest (written here (bytes here s) memory) ∙ written_length (bytes here s) memory here

  -- nothing is written below here
  laid_below : (here a : ℕ) (statements : List Statement) (memory : List ℕ) → a < here → get_or (laid_from size values here statements memory) a 0 ≡ get_or memory a 0
  unfolding laid_from
  laid_below here a [] memory h = refl
  laid_below here a (s ∷ rest) memory h =
      let up = next_up size here s in
      laid_below (next size here s) a rest (written here (bytes here s) memory) (omega arith) ∙ written_other (bytes here s) memory here a (inl h)

  -- a statement's bytes stand where it stands
  pub laid_there : (here j : ℕ) (before after : List Statement) (s : Statement) (memory : List ℕ) → here ≤ size → length memory ≡ size → j < length (bytes (end size here before) s) →
      get_or (laid_from size values here (before ++ s ∷ after) memory) (end size here before + j) 0 ≡ get_or (bytes (end size here before) s) j 0
  unfolding laid_from end
  laid_there here j [] after s memory h l lt =
      let fits = room size here values s in
      let in_memory = next_inside size here s h in
      laid_below (next size here s) (here + j) after (written here (bytes here s) memory) (omega arith) ∙ written_there (bytes here s) memory here j lt (omega arith)
  laid_there here j (b ∷ before) after s memory h l lt =
      laid_there (next size here b) j before after s (written here (bytes here b) memory) (next_inside size here b h) (written_length (bytes here b) memory here ∙ l) lt

  -- a byte outside all places stays
  pub laid_other : (here a : ℕ) (statements : List Statement) (memory : List ℕ) →
      ((before after : List Statement) (s : Statement) → statements ≡ before ++ s ∷ after → (a < end size here before) ⊎ (end size here before + length (bytes (end size here before) s) ≤ a)) →
      get_or (laid_from size values here statements memory) a 0 ≡ get_or memory a 0
  unfolding laid_from end
  laid_other here a [] memory away = refl
  laid_other here a (s ∷ rest) memory away =
      laid_other (next size here s) a rest (written here (bytes here s) memory) (λ before after t e. away (s ∷ before) after t (ap (λ (ss : List Statement). s ∷ ss) e))
      ∙ written_other (bytes here s) memory here a (away [] rest s refl)

  -- where there are no faults, none is a statement's
  none_left : (xs ys : List Located) → xs ++ ys ≡ [] → (xs ≡ []) × (ys ≡ [])
  none_left [] ys e = (refl, e)
  none_left (x ∷ xs) ys e = let z : ◌≡◌ {A = ℕ} 0 1 = cc in absurd (omega arith)

  no_fault : (k : ℕ) (r : Result (List ℕ) Fault) → fault_at k (result_err r) ≡ [] → r ≡ Ok (bytes_in r)
  no_fault k (Ok bs) e = refl
  no_fault k (Err f) e = cc

  pub laid_fine : (here k : ℕ) (before after : List Statement) (s : Statement) → faults_from size values k here (before ++ s ∷ after) ≡ [] →
      outcome size values (end size here before) s ≡ Ok (bytes (end size here before) s)
  unfolding faults_from end
  laid_fine here k [] after s e = no_fault k (outcome size values here s) (none_left (fault_at k (result_err (outcome size values here s))) (faults_from size values (k + 1) (next size here s) after) e).0
  laid_fine here k (b ∷ before) after s e =
      laid_fine (next size here b) (k + 1) before after s (none_left (fault_at k (result_err (outcome size values here b))) (faults_from size values (k + 1) (next size here b) (before ++ s ∷ after)) e).1
