-- Rows with empty places: one place more of a loop over them.
use Rattle.std.proofs.Common.{◌≡◌, ℕ, Bool, true, false, cond, ltb, List, [], ◌∷◌, ◌++◌, map, length, set, Some, None, Option, sym, refl, ap, ◌∙◌, subst, arith}
use Rattle.std.specs.List.{flat_map, list_all}
use Rattle.std.specs.Option.{option_to_list}
use Rattle.std.specs.Bool.{MatchBool}
use Rattle.std.specs.Borrow.{Bor}
use Rattle.std.specs.Iterator.Adapters.{option_iter_item, option_iter_done, option_iter_steps}
use Rattle.std.proofs.lemmas.Iterator.{YieldsList}
use Rattle.std.proofs.lemmas.Iterator.Consumers.{YieldsList-from_shown}
use Rattle.std.proofs.lemmas.List.{map_push}
use Rattle.std.proofs.lemmas.Simd.{map-map}
use Rattle.cores.specs.Board.{with_lines}
use Rattle.cores.specs.Ports.{line_of, somes}
use Rattle.cores.specs.declared.port.Line.{Line}
use Rattle.board.specs.Rows.{inside}

-- one line more is written
written_push : (m : List (List ℕ)) (ws : List (ℕ × List ℕ)) (w : ℕ × List ℕ) → with_lines m (ws ++ w ∷ []) ≡ set (with_lines m ws) w.0 w.1
unfolding with_lines
written_push m [] w = refl
written_push m (v ∷ ws) w = written_push (set m v.0 v.1) ws w

pub one_more : {A : Type 0} (m : List (List ℕ)) (line : A → Line) (done : List A) (a : A) (now after : List (List ℕ)) → now ≡ with_lines m (map (λ x. line_of (line x)) done) →
    after ≡ set now (line a).number (line a).words → after ≡ with_lines m (map (λ x. line_of (line x)) (done ++ a ∷ []))
one_more m line done a now after e w =
    let of : _ → ℕ × List ℕ = λ x. line_of (line x) in
    w ∙ ap (λ (v : List (List ℕ)). set v (line a).number (line a).words) e ∙ sym (written_push m (map of done) (of a)) ∙ ap (with_lines m) (sym (map_push of done a))

-- the lines of a row, without the empty places
lines_there : (xs : List (Option Line)) → somes line_of xs ≡ map line_of (flat_map option_to_list xs)
lines_there [] = refl
lines_there (None ∷ xs) = lines_there xs
lines_there (Some l ∷ xs) = ap (λ (ws : List (ℕ × List ℕ)). line_of l ∷ ws) (lines_there xs)

pub all_written : {A : Type 0} (m : List (List ℕ)) (line : A → Line) (done : List A) (xs : List (Option Line)) (now : List (List ℕ)) → now ≡ with_lines m (map (λ x. line_of (line x)) done) →
    map line done ≡ flat_map option_to_list xs → now ≡ with_lines m (somes line_of xs)
all_written m line done xs now e all =
    e ∙ ap (with_lines m) (sym (map-map line_of line done) ∙ ap (map line_of) all ∙ sym (lines_there xs))

-- the iterator of a place gives what it has, once
module _ {A : Type 0} where
  nothing_left : (done : Bool) (o : Option A) → MatchBool done (◌≡◌ {A = Option (Bor A)} None None) (None ≡ o) → length (cond done [] (option_to_list o)) ≡ 0
  nothing_left true o h = refl
  nothing_left false o h = ap (λ k. length (option_to_list k)) (sym h)

  one_left : (done : Bool) (o : Option A) (x : Bor A) → MatchBool done (Some x ≡ None) (Some x.now ≡ o) → cond done [] (option_to_list o) ≡ x.now ∷ []
  one_left true o x h = absurd (let z : ◌≡◌ {A = ℕ} 0 1 = cc h in omega arith)
  one_left false o x h = ap option_to_list (sym h)

  pub of_place : (s : _) (o : Option A) → option_iter_item s ≡ o → option_iter_done s ≡ false → YieldsList (option_iter_steps {A = A}) (λ y. y.now) s (option_to_list o)
  of_place s o h e =
      let all = YieldsList-from_shown (option_iter_steps {A = A}) (λ y. y.now) (λ u. cond (option_iter_done u) [] (option_to_list (option_iter_item u)))
      (λ u t k. nothing_left (option_iter_done u) (option_iter_item u) k.1)
      (λ u x t k. one_left (option_iter_done u) (option_iter_item u) x k.1 ∙ ap (λ b. x.now ∷ cond b [] (option_to_list (option_iter_item t))) (sym k.0))
      s
      in
      let same : cond (option_iter_done s) [] (option_to_list (option_iter_item s)) ≡ option_to_list o = ap (λ b. cond b [] (option_to_list (option_iter_item s))) e ∙ ap option_to_list h in
      subst (λ (ys : List A). YieldsList (option_iter_steps {A = A}) (λ y. y.now) s ys) same all

-- the lines of a row that are inside
pub inside_all : (n : ℕ) (xs : List (Option Line)) → list_all (λ l. ltb l.number n) (flat_map option_to_list xs) ≡ inside n (somes (λ (l : Line). l.number) xs)
inside_all n [] = refl
inside_all n (None ∷ xs) = inside_all n xs
inside_all n (Some l ∷ xs) = rw (inside_all n xs) refl
