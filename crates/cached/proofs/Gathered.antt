-- The lines of a row's first places, gathered in four places one after another.
use Rattle.std.proofs.Common.{◌≡◌, ℕ, ◌+◌, ◌<◌, ◌≤◌, true, false, List, [], ◌∷◌, ◌++◌, length, take, drop, get_or, set, Some, None, Option, sym, refl, ap, ◌∙◌, arith, length-set, length-append, take-append-drop}
use Rattle.std.proofs.lemmas.List.{take_more, take_all, get_or-set_other}
use Rattle.std.specs.Option.{is_some}
use Rattle.cores.specs.Ports.{line_of, somes}
use Rattle.cores.specs.declared.port.Line.{Line}
use Rattle.cores.proofs.Basics.{append_nil}
use Rattle.cached.proofs.Cycles.{somes_append}
use Rattle.cached.proofs.Sequence.{somes_set}

-- the lines of the row's first i places are in the first n of four places, and the others are empty
abbrev pub Gathered : List (Option Line) → ℕ → List (Option Line) → ℕ → Type 0
Gathered row i four n =
    (somes line_of four ≡ somes line_of (take i row))
    × (n ≡ length (somes line_of (take i row)))
    × (length four ≡ 4)
    × ((j : ℕ) → n ≤ j → get_or four j None ≡ None)

module _ (row : List (Option Line)) (i : ℕ) (h : i < length row) where
  one_more : somes line_of (take (i + 1) row) ≡ somes line_of (take i row) ++ somes line_of (get_or row i None ∷ [])
  one_more = ap (somes line_of) (take_more row i None h) ∙ somes_append line_of (take i row) (get_or row i None ∷ [])

  one : (x : Option Line) → is_some x ≡ true → length (somes line_of (x ∷ [])) ≡ 1
  one (Some x) e = refl
  one None e = cc

  no_line : (x : Option Line) → is_some x ≡ false → somes line_of (x ∷ []) ≡ []
  no_line None e = refl
  no_line (Some x) e = cc

  -- a place with a line: there is room for it
  pub has_room : (n : ℕ) → length (somes line_of row) ≤ 4 → is_some (get_or row i None) ≡ true → n ≡ length (somes line_of (take i row)) → n < 4
  has_room n few e m =
      let whole : somes line_of row ≡ somes line_of (take (i + 1) row) ++ somes line_of (drop (i + 1) row)
      = ap (somes line_of) (sym (take-append-drop (i + 1) row)) ∙ somes_append line_of (take (i + 1) row) (drop (i + 1) row) in
      let l = ap length whole ∙ length-append (somes line_of (take (i + 1) row)) (somes line_of (drop (i + 1) row)) in
      let k = ap length one_more ∙ length-append (somes line_of (take i row)) (somes line_of (get_or row i None ∷ [])) in
      omega (arith, l, k, one (get_or row i None) e)

  pub gathered_line : (four : List (Option Line)) (n : ℕ) → n < 4 → is_some (get_or row i None) ≡ true → Gathered row i four n → Gathered row (i + 1) (set four n (get_or row i None)) (n + 1)
  gathered_line four n l e g = (
    somes_set line_of four n (get_or row i None) (omega (arith, g.2)) g.3 ∙ ap (λ xs. xs ++ somes line_of (get_or row i None ∷ [])) g.0 ∙ sym one_more,
    (let k = ap length one_more ∙ length-append (somes line_of (take i row)) (somes line_of (get_or row i None ∷ [])) in omega (arith, k, g.1, one (get_or row i None) e)),
    length-set four n (get_or row i None) ∙ g.2,
    λ j b. get_or-set_other four n j (get_or row i None) None (λ q. absurd (omega (arith, q))) ∙ g.3 j (omega arith),
  )

  pub gathered_none : (four : List (Option Line)) (n : ℕ) → is_some (get_or row i None) ≡ false → Gathered row i four n → Gathered row (i + 1) four n
  gathered_none four n e g =
      let same : somes line_of (take (i + 1) row) ≡ somes line_of (take i row)
      = one_more ∙ ap (λ xs. somes line_of (take i row) ++ xs) (no_line (get_or row i None) e) ∙ append_nil (somes line_of (take i row)) in
      (g.0 ∙ sym same, g.1 ∙ ap length (sym same), g.2, g.3)

-- once all places are gathered, four have what the row has
pub gathered_all : (row four : List (Option Line)) (i n : ℕ) → length row ≤ i → Gathered row i four n → somes line_of four ≡ somes line_of row
gathered_all row four i n h g = g.0 ∙ ap (somes line_of) (take_all i row h)
