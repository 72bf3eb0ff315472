-- A table that is searched from the top.
-- Assumes nothing: these are definitions.
use Rattle.std.specs.Prelude.{ℕ, Bool, true, cond, not, ◌&&◌, List, [], ◌∷◌, Some, None, Option}
use Rattle.std.specs.Str.{bytes_eq}

-- the entry of the first row that passes
abbrev pub first_entry : {R A : Type 0} → (R → Bool) → (R → A) → List R → Option A
first_entry passes entry [] = None
first_entry passes entry (row ∷ rows) = cond (passes row) (Some (entry row)) (first_entry passes entry rows)

-- no text twice
abbrev pub is_absent : List ℕ → List (List ℕ) → Bool
is_absent text [] = true
is_absent text (other ∷ rest) = not (bytes_eq text other) && is_absent text rest

abbrev pub are_distinct : List (List ℕ) → Bool
are_distinct [] = true
are_distinct (text ∷ rest) = is_absent text rest && are_distinct rest
