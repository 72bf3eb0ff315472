-- A core's own cache, and the caches of all cores.
use Rattle.std.proofs.Common.{◌≡◌, ℕ, suc, ◌+◌, ◌*◌, ◌/◌, ◌%◌, ◌<◌, ◌≤◌, Bool, true, false, List, get_or, set, sym, refl, ap, ◌∙◌, inl, inr, arith}
use mathlib.Core.Path.{fun_ext}
use Rattle.std.proofs.lemmas.Bool.{cases_eq, cases_lt, lt-ltb, le-ltb, eq-eqb, ne_eqb, cond-true, cond-false}
use Rattle.rv32.specs.declared.core_state.Need.{Need}
use Rattle.rv32.specs.declared.core_state.Need.TheVariants.{Nothing, Read, Write}
use Rattle.words.specs.Parts.{part, block, table}
use Rattle.words.proofs.Parts.{part_part, put_is}
use Rattle.words.proofs.Tables.{within_read, within_written}
use Rattle.cores.specs.Machines.{pick}
use Rattle.cores.specs.Put.{put}
use Rattle.cache.specs.Slots.{Slot, empty, holds, has, owns, words, home, Found, missing, found, find, word_at, cached, ready, lacks, to_read, to_write, seek, goes_first, chosen}
use Rattle.cache.specs.Words.{slot_of, slots_of, caches_of, stored_at, stored_in}
use Rattle.cache.specs.Own.{Own, with_own, shifted, OwnWords, OwnWordsWritten, PlaceRead, PlaceWritten}

-- block i of block k
inner : (w : List ℕ) (k i : ℕ) → i < 64 → block 10 (block 640 w k) i ≡ block 10 w (64 * k + i)
inner w k i h = part_part (640 * k) 640 (10 * i) 10 w (omega arith) ∙ ap (λ a. part a 10 w) (omega arith)

pub own_words : OwnWords
own_words w k h i l =
    cond-true _ _ _ (lt-ltb i 64 l) ∙ ap slot_of (inner w k i l) ∙ sym (cond-true _ _ _ (lt-ltb (64 * k + i) 256 (omega arith)))

-- the two places of a line
pub home_own : (k a : ℕ) → home k a ≡ 64 * k + home 0 a
home_own k a = omega arith

next_own : (k a : ℕ) → suc (home k a) ≡ 64 * k + suc (home 0 a)
next_own k a = omega arith

module _ (k : ℕ) (f g : ℕ → Slot) (o : Own k f g) where
  pub first_own : (a : ℕ) → f (home k a) ≡ g (home 0 a)
  first_own a = ap f (home_own k a) ∙ sym (o (home 0 a) (omega arith))

  pub second_own : (a : ℕ) → f (suc (home k a)) ≡ g (suc (home 0 a))
  second_own a = ap f (next_own k a) ∙ sym (o (suc (home 0 a)) (omega arith))

  pub find_own : (a : ℕ) → find f k a ≡ shifted k (find g 0 a)
  find_own a =
      (λ i. pick (has (first_own a i) a) (found (home_own k a i)) (pick (has (second_own a i) a) (found (next_own k a i)) missing))
      ∙ push (has (g (home 0 a)) a) (has (g (suc (home 0 a))) a) (home 0 a) (suc (home 0 a))
    where
      push : (b c : Bool) (x y : ℕ) → pick b (found (64 * k + x)) (pick c (found (64 * k + y)) missing) ≡ shifted k (pick b (found x) (pick c (found y) missing))
      push true c x y = refl
      push false true x y = refl
      push false false x y = refl

  -- what is found in its own cache is one of its slots
  find_within : (a : ℕ) (P : Found → Type 0) → P missing → ((i : ℕ) → i < 64 → P (found i)) → P (find g 0 a)
  find_within a P m h = ways (has (g (home 0 a)) a) (has (g (suc (home 0 a))) a)
    where
      ways : (b c : Bool) → P (pick b (found (home 0 a)) (pick c (found (suc (home 0 a))) missing))
      ways true c = h (home 0 a) (omega arith)
      ways false true = h (suc (home 0 a)) (omega arith)
      ways false false = m

  pub cached_own : (x : ℕ) → cached f k x ≡ cached g 0 x
  cached_own x =
      ap (λ r. word_at f r x) (find_own (x / 8))
      ∙ find_within (x / 8) (λ r. word_at f (shifted k r) x ≡ word_at g r x) refl (λ i h. ap (λ s. get_or (words s) (x % 8) 0) (sym (o i h)))

  pub seek_own : (n : Need) → seek f k n ≡ seek g 0 n
  seek_own Nothing = refl
  seek_own (Read x) = ap (λ r. to_read r x) (find_own (x / 8)) ∙ find_within (x / 8) (λ r. to_read (shifted k r) x ≡ to_read r x) refl (λ i h. refl)
  seek_own (Write x) =
      ap (λ r. to_write f r x) (find_own (x / 8))
      ∙ find_within (x / 8) (λ r. to_write f (shifted k r) x ≡ to_write g r x) refl (λ i h. ap (λ s. pick (owns s (x / 8)) ready (lacks (x / 8) true)) (sym (o i h)))

  pub goes_first_own : (a c : ℕ) (b : Bool) → goes_first (f (home k a)) (f (suc (home k a))) c b ≡ goes_first (g (home 0 a)) (g (suc (home 0 a))) c b
  goes_first_own a c b = λ i. goes_first (first_own a i) (second_own a i) c b

  chosen_at : (a : ℕ) (b : Bool) (r : Found) → chosen (shifted k r) k a b ≡ 64 * k + chosen r 0 a b
  chosen_at a b (found i) = refl
  chosen_at a true missing = home_own k a
  chosen_at a false missing = next_own k a

  pub chosen_own : (a : ℕ) (b : Bool) → chosen (find f k a) k a b ≡ 64 * k + chosen (find g 0 a) 0 a b
  chosen_own a b = ap (λ r. chosen r k a b) (find_own a) ∙ chosen_at a b (find g 0 a)

  pub choose_own : (a c : ℕ) (b : Bool) →
      chosen (find f k a) k a (goes_first (f (home k a)) (f (suc (home k a))) c b) ≡ 64 * k + chosen (find g 0 a) 0 a (goes_first (g (home 0 a)) (g (suc (home 0 a))) c b)
  choose_own a c b = ap (chosen (find f k a) k a) (goes_first_own a c b) ∙ chosen_own a (goes_first (g (home 0 a)) (g (suc (home 0 a))) c b)

  -- a place, by core and slot
  other : (p i : ℕ) → (p ≡ 64 * k + i → ⊥) → p / 64 ≡ k → p % 64 ≡ i → ⊥
  other p i ne e h = ne (omega arith)

  written_at : (i : ℕ) (x : Slot) → i < 64 → (p : ℕ) → (p ≡ 64 * k + i → ⊥) → with_own k f (put g i x) p ≡ f p
  written_at i x h p ne =
      elim (cases_eq (p / 64) k) [
        | inl e ↦ cond-true _ _ _ (eq-eqb (p / 64) k e) ∙ cond-false _ _ _ (ne_eqb (p % 64) i (other p i ne e)) ∙ o (p % 64) (omega arith) ∙ ap f (omega arith)
        | inr d ↦ cond-false _ _ _ (ne_eqb (p / 64) k d)
      ]

  pub put_own : (i : ℕ) (x : Slot) → i < 64 → with_own k f (put g i x) ≡ put f (64 * k + i) x
  put_own i x h =
      put_is f (with_own k f (put g i x)) (64 * k + i) x
      (cond-true _ _ _ (eq-eqb ((64 * k + i) / 64) k (omega arith)) ∙ cond-true _ _ _ (eq-eqb ((64 * k + i) % 64) i (omega arith)))
      (written_at i x h)

  same_own : with_own k f g ≡ f
  same_own =
      fun_ext (λ p. elim (cases_eq (p / 64) k) [
        | inl e ↦ cond-true _ _ _ (eq-eqb (p / 64) k e) ∙ o (p % 64) (omega arith) ∙ ap f (omega arith)
        | inr d ↦ cond-false _ _ _ (ne_eqb (p / 64) k d)
      ])

  pub stored_own : (y v : ℕ) → with_own k f (stored_in g 0 y v) ≡ stored_in f k y v
  stored_own y v =
      find_within (y / 8) (λ r. with_own k f (stored_at r y v g) ≡ stored_at (shifted k r) y v f) same_own
      (λ i h. put_own i (holds (y / 8) true true (set (words (g i)) (y % 8) v)) h ∙ ap (λ s. put f (64 * k + i) (holds (y / 8) true true (set (words s) (y % 8) v))) (o i h))
      ∙ ap (λ r. stored_at r y v f) (sym (find_own (y / 8)))

-- all caches after only core k's words have changed
slots_by : (w : List ℕ) (p : ℕ) → p < 256 → caches_of w p ≡ slots_of (block 640 w (p / 64)) (p % 64)
slots_by w p h = ap (caches_of w) (omega arith) ∙ sym (own_words w (p / 64) (omega arith) (p % 64) (omega arith))

pub caches_changed : (v w : List ℕ) (k : ℕ) → k < 4 → ((j : ℕ) → j < 4 → (j ≡ k → ⊥) → block 640 v j ≡ block 640 w j) →
    caches_of v ≡ with_own k (caches_of w) (slots_of (block 640 v k))
caches_changed v w k h same = fun_ext (λ p. elim (cases_lt p 256) [ inl l ↦ inside p l | inr l ↦ outside p l ])
  where
    outside : (p : ℕ) → 256 ≤ p → caches_of v p ≡ with_own k (caches_of w) (slots_of (block 640 v k)) p
    outside p l =
        cond-false _ _ _ (le-ltb p 256 l) ∙ sym (cond-false _ _ _ (le-ltb p 256 l)) ∙ sym (cond-false _ _ _ (ne_eqb (p / 64) k (λ e. omega arith)))

    inside : (p : ℕ) → p < 256 → caches_of v p ≡ with_own k (caches_of w) (slots_of (block 640 v k)) p
    inside p l =
        slots_by v p l
        ∙ elim (cases_eq (p / 64) k) [
          | inl e ↦ ap (λ j. slots_of (block 640 v j) (p % 64)) e ∙ sym (cond-true _ _ _ (eq-eqb (p / 64) k e))
          | inr d ↦ ap (λ b. slots_of b (p % 64)) (same (p / 64) (omega arith) d) ∙ sym (slots_by w p l) ∙ sym (cond-false _ _ _ (ne_eqb (p / 64) k d))
        ]

pub own_words_written : OwnWordsWritten
own_words_written v w ys k h e =
    let at : (j : ℕ) → block 640 v j ≡ put (block 640 w) k ys j = λ j. ap (λ (f : ℕ → List ℕ). f j) e in
    caches_changed v w k h (λ j l ne. at j ∙ cond-false _ _ _ (ne_eqb j k ne))
    ∙ ap (λ b. with_own k (caches_of w) (slots_of b)) (at k ∙ cond-true _ _ _ (eq-eqb k k refl))

-- a place of all caches
pub place_read : PlaceRead
place_read n w p h = within_read n empty (table 10 (λ _. slot_of) w) p h

pub place_written : PlaceWritten
place_written n v w p x h e = within_written n empty (table 10 (λ _. slot_of) w) (table 10 (λ _. slot_of) v) p x h e
