-- Tests, rows and lists read as functions: small laws that the other proofs share.
use Rattle.std.proofs.Common.{◌≡◌, ℕ, ◌<◌, ◌≤◌, Bool, true, false, eqb, ltb, ◌≢◌, List, [], ◌∷◌, ◌++◌, length, get_or, set, refl, ap, ◌∙◌, arith, length-set, get_or-set_other, get_or-set_same}
use Rattle.cores.specs.Machines.{pick}
use Rattle.cores.specs.Board.{with_lines}
use Rattle.cores.specs.Put.{put}

-- by cases on a test
pub by_test : {P : Type 0} (b : Bool) → (b ≡ true → P) → (b ≡ false → P) → P
by_test true f g = f refl
by_test false f g = g refl

-- what holds of both holds of the one that is picked
pub choose : {A : Type 0} (P : A → Type 0) (b : Bool) (x y : A) → (b ≡ true → P x) → (b ≡ false → P y) → P (pick b x y)
choose P true x y f g = f refl
choose P false x y f g = g refl

pub same : (a b : ℕ) → eqb a b ≡ true → a ≡ b
same a b e = grind arith

pub differ : (a b : ℕ) → eqb a b ≡ false → a ≢ b
differ a b e = grind arith

pub less : (a b : ℕ) → ltb a b ≡ true → a < b
less a b e = grind arith

pub not_less : (a b : ℕ) → ltb a b ≡ false → b ≤ a
not_less a b e = grind arith

pub append_nil : {A : Type 0} (xs : List A) → xs ++ [] ≡ xs
append_nil [] = refl
append_nil {A} (x ∷ xs) = ap {B = List A} (λ r. x ∷ r) (append_nil xs)

-- a list after a write, read as a function
pub set_put : {A : Type 0} (l : List A) (i : ℕ) (x d : A) (j : ℕ) → i < length l → get_or (set l i x) j d ≡ put (λ j. get_or l j d) i x j
set_put l i x d j h = by_test (eqb j i) (λ e. rw (e, same j i e) (get_or-set_same l i x d h)) (λ e. rw e (get_or-set_other l i j x d (differ j i e)))

pub with_lines_append : (m : List (List ℕ)) (xs ys : List (ℕ × List ℕ)) → with_lines m (xs ++ ys) ≡ with_lines (with_lines m xs) ys
unfolding with_lines
with_lines_append m [] ys = refl
with_lines_append m (x ∷ xs) ys = with_lines_append (set m x.0 x.1) xs ys

pub with_lines_length : (m : List (List ℕ)) (xs : List (ℕ × List ℕ)) → length (with_lines m xs) ≡ length m
unfolding with_lines
with_lines_length m [] = refl
with_lines_length m (x ∷ xs) = with_lines_length (set m x.0 x.1) xs ∙ length-set m x.0 x.1
