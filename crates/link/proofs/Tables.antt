-- A table of m blocks in lent words, with something else beyond: one whose words are all 0; and a test of four places.
use Rattle.std.proofs.Common.{◌≡◌, ℕ, suc, ◌*◌, ◌<◌, Bool, true, false, not, ◌&&◌, ltb, List, [], ◌∷◌, get_or, refl, ap, ◌∙◌, arith}
use mathlib.Core.Path.{fun_ext}
use Rattle.std.specs.List.{list_all}
use Rattle.words.specs.Parts.{block}
use Rattle.words.proofs.Parts.{part_word}
use Rattle.cores.specs.Machines.{pick}

same : {X : Type 0} (b : Bool) (x : X) → pick b x x ≡ x
same true x = refl
same false x = refl

-- the first word of a block
pub first_word : (n i : ℕ) (w : List ℕ) → 0 < n → get_or (block n w i) 0 0 ≡ get_or w (n * i) 0
first_word n i w h = part_word (n * i) n w 0 0 h ∙ ap (λ a. get_or w a 0) (omega arith)

-- a table whose words are all 0, where a first word 0 says that there is nothing
pub table_cleared : {X : Type 0} (of : ℕ → List ℕ → X) (d : X) (m n : ℕ) (w : List ℕ) → 0 < n → ((j : ℕ) (b : List ℕ) → get_or b 0 0 ≡ 0 → of j b ≡ d) → ((i : ℕ) → get_or w i 0 ≡ 0) →
    ◌≡◌ {A = ℕ → X} (λ j. pick (ltb j m) (of j (block n w j)) d) (λ j. d)
table_cleared {X} of d m n w h none z =
    fun_ext (λ j. ap (λ x. pick (ltb j m) x d) (none j (block n w j) (first_word n j w h ∙ z (n * j))) ∙ same (ltb j m) d)

-- none of four passes a test, by a function of n that looks at the first n from the last on
and_not : (d x : Bool) → pick d false x ≡ (x && not d)
and_not true true = refl
and_not true false = refl
and_not false true = refl
and_not false false = refl

from_first : (a b c d : Bool) → (not a && not b && not c && not d) ≡ list_all not (a ∷ b ∷ c ∷ d ∷ [])
from_first true b c d = refl
from_first false true c d = refl
from_first false false true d = refl
from_first false false false true = refl
from_first false false false false = refl

module _ (test f : ℕ → Bool) (start : f 0 ≡ true) (more : (n : ℕ) → f (suc n) ≡ pick (test n) false (f n)) where
  next : (n : ℕ) (x : Bool) → f n ≡ x → f (suc n) ≡ (x && not (test n))
  next n x e = more n ∙ and_not (test n) (f n) ∙ ap (λ y. y && not (test n)) e

  pub none_of_four : f 4 ≡ list_all (λ k. not (test k)) (0 ∷ 1 ∷ 2 ∷ 3 ∷ [])
  none_of_four = next 3 _ (next 2 _ (next 1 _ (next 0 _ start))) ∙ from_first (test 0) (test 1) (test 2) (test 3)
