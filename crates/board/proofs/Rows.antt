-- Rows of lines that wait: whether places are among those given, and what is chosen of a row.
use Rattle.std.proofs.Common.{◌≡◌, ℕ, zero, suc, ◌-◌, ◌<◌, ◌≤◌, Bool, true, false, cond, eqb, ltb, List, [], ◌∷◌, ◌++◌, map, length, get_or, Some, None, Option, sym, refl, ap, ◌∙◌, arith}
use Rattle.std.specs.List.{list_all, list_any}
use Rattle.std.specs.Option.{option_to_list}
use Rattle.std.proofs.lemmas.List.{get_or-map, length-map}
use Rattle.std.proofs.lemmas.Bool.{and_parts, cond-false, le-ltb, ltb-true}
use Rattle.cores.specs.Machines.{pick}
use Rattle.cores.specs.Board.{among, due, handed, kept, later}
use Rattle.cores.specs.Ports.{line_of}
use Rattle.board.specs.Faults.{full}
use Rattle.board.specs.Rows.{chosen, comes_at, comes_now, inside, line_in, line_there, pair_in}
use Rattle.board.specs.declared.row.Waiting.{Waiting}

-- a place is among those given if any is it
pub any_among : (i : ℕ) (ps : List ℕ) → list_any (λ p. eqb i p) ps ≡ among i ps
unfolding among
any_among i [] = refl
any_among i (p ∷ ps) = rw (any_among i ps) refl

-- lines are inside if each is
pub all_inside : {X : Type 0} (f : X → ℕ) (n : ℕ) (xs : List X) → list_all (λ x. ltb (f x) n) xs ≡ inside n (map f xs)
all_inside f n [] = refl
all_inside f n (x ∷ xs) = rw (all_inside f n xs) refl

inside_at : (n : ℕ) (xs : List ℕ) (i : ℕ) → inside n xs ≡ true → i < length xs → get_or xs i 0 < n
inside_at n [] i e h = absurd (omega arith)
inside_at n (a ∷ xs) zero e h = ltb-true a n (and_parts (ltb a n) (inside n xs) e).0
inside_at n (a ∷ xs) (suc i) e h = inside_at n xs i (and_parts (ltb a n) (inside n xs) e).1 (omega arith)

-- each line of a row that is inside is one of memory's
pub line_inside : (n : ℕ) (ws : List Waiting) → inside n (map line_in ws) ≡ true → (i : ℕ) (w : Waiting) → i < length ws → w ≡ get_or ws i w → w.line < n
line_inside n ws e i w h is =
    let long : length (map line_in ws) ≡ length ws = simp length-map in
    let at : get_or (map line_in ws) i 0 < n = inside_at n (map line_in ws) i e (omega arith) in
    let same : get_or (map line_in ws) i 0 ≡ w.line = get_or-map line_in ws i w 0 h ∙ ap line_in (sym is) in
    omega arith

-- what is chosen of a row whose first place is chosen or not, as a row that is picked
by_choice : {T Y : Type 0} (f : T → Y) (b : Bool) (t : T) (rest : List T) (zs : List Y) → map f rest ≡ zs → map f (option_to_list (cond b None (Some t)) ++ rest) ≡ pick b zs (f t ∷ zs)
by_choice f true t rest zs e = e
by_choice f false t rest zs e = ap (λ (ys : List _). f t ∷ ys) e

by_pick : {T Y : Type 0} (f : T → Y) (b : Bool) (t : T) (rest : List T) (zs : List Y) → map f rest ≡ zs → map f (option_to_list (cond b (Some t) None) ++ rest) ≡ pick b (f t ∷ zs) zs
by_pick f true t rest zs e = ap (λ (ys : List _). f t ∷ ys) e
by_pick f false t rest zs e = e

-- those that go on waiting, where some places are given
abbrev pub stays : List ℕ → ℕ → Waiting → Option Waiting
stays gs i w = cond (among i gs) None (Some w)

pub stays_kept : (gs : List ℕ) (i : ℕ) (ws : List Waiting) → map line_in (chosen (stays gs) i ws) ≡ kept gs i (map line_in ws)
unfolding kept
stays_kept gs i [] = refl
stays_kept gs i (w ∷ ws) = by_choice line_in (among i gs) w _ _ (stays_kept gs (suc i) ws)

-- and a cycle later
abbrev pub nearer : ℕ → Waiting → Option Waiting
nearer i w = cond (eqb w.left 0) None (Some (record { line = w.line; left = w.left - 1 }))

pub nearer_later : (i : ℕ) (ws : List Waiting) → map pair_in (chosen nearer i ws) ≡ later (map pair_in ws)
unfolding later
nearer_later i [] = refl
nearer_later i (w ∷ ws) = by_choice pair_in (eqb w.left 0) (record { line = w.line; left = w.left - 1 }) _ _ (nearer_later (suc i) ws)

module _ (m : List (List ℕ)) where
  -- the lines at the places given, with what memory m has
  pub comes_handed : (gs : List ℕ) (i : ℕ) (ws : List Waiting) → map line_of (chosen (comes_at m gs) i ws) ≡ handed m gs i (map line_in ws)
  unfolding handed
  comes_handed gs i [] = refl
  comes_handed gs i (w ∷ ws) = by_pick line_of (among i gs) (line_there m w.line) _ _ (comes_handed gs (suc i) ws)

  -- and those whose time has come
  pub comes_due : (i : ℕ) (ws : List Waiting) → map line_of (chosen (λ _. comes_now m) i ws) ≡ due m (map pair_in ws)
  unfolding due
  comes_due i [] = refl
  comes_due i (w ∷ ws) = by_pick line_of (eqb w.left 0) (line_there m w.line) _ _ (comes_due (suc i) ws)

-- so many may wait
pub fits : (count : ℕ) → count ≤ 16 → None ≡ full count
fits count h = sym (cond-false _ _ _ (le-ltb 16 count h))
