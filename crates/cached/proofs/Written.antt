-- The words that are written, read back as parts of the chip's state.
use Rattle.std.proofs.Common.{◌≡◌, ℕ, zero, suc, ◌+◌, ◌*◌, ◌%◌, ◌<◌, ◌≤◌, min, ltb, ◌⊎◌, List, [], ◌∷◌, length, get_or, take, drop, sym, refl, ap, ◌∙◌, inl, inr, arith}
use mathlib.Core.Path.{fun_ext}
use borrow.Rule.Slice.PartMut.{put_mid}
use mir.Val.{bool_byte}
use Rattle.std.proofs.lemmas.Bool.{cases_eq, cases_order, lt-ltb, cond-true}
use Rattle.words.specs.Parts.{part, block, table}
use Rattle.words.proofs.Parts.{part_is, part_here, part_other, part_part, part_word, apart, put_is}
use Rattle.words.proofs.Tables.{within, within_written}
use Rattle.cores.specs.Machines.{pick}
use Rattle.cores.specs.Put.{put}
use Rattle.cores.specs.Registers.{cpus_of, ons_of}
use Rattle.cores.proofs.CoreWords.{flag_byte}
use Rattle.cache.specs.Own.{Own, with_own}
use Rattle.cache.specs.Words.{caches_of, slots_of}
use Rattle.cache.proofs.Own.{caches_changed, own_words}
use Rattle.link.specs.Words.{grants_of, probes_of}
use Rattle.directory.specs.Words.{entries_of, requests_of}
use Rattle.cached.specs.Layout.{control_of, dues_of, sweeps_of, state_of, state_from, with_slots}
use Rattle.cached.specs.Rv.{rv}
use Rattle.cached.specs.Soc.{State}
use Rattle.cached.specs.declared.control.Control.{Control}

-- a row of words, one for each core, each read by `of`, with something else beyond
module _ {X : Type 0} (of : ℕ → X) (none : X) where
  abbrev words : List ℕ → ℕ → X
  words w = table 1 (λ _ b. of (get_or b 0 0)) w

  abbrev row : List ℕ → ℕ → X
  row w k = pick (ltb k 4) (of (get_or w k 0)) none

  word_is : (w : List ℕ) (k : ℕ) → words w k ≡ of (get_or w k 0)
  word_is w k = ap of (part_word (1 * k) 1 w 0 0 (omega arith) ∙ ap (λ i. get_or w i 0) (omega arith))

  row_within : (w : List ℕ) → row w ≡ within 4 none (words w)
  row_within w = fun_ext (λ k. ap (λ x. pick (ltb k 4) x none) (sym (word_is w k)))

  pub row_read : (w : List ℕ) (k : ℕ) → k < 4 → words w k ≡ row w k
  row_read w k h = word_is w k ∙ sym (cond-true _ _ _ (lt-ltb k 4 h))

  pub row_written : (v w : List ℕ) (k : ℕ) (x : X) → k < 4 → words v ≡ put (words w) k x → row v ≡ put (row w) k x
  row_written v w k x h e = row_within v ∙ within_written 4 none (words w) (words v) k x h e ∙ ap (λ f. put f k x) (sym (row_within w))

-- what the cores share, after it was written
least : (n : ℕ) → n ≤ 4 → min n 4 ≡ n
least n h = omega arith

small : (n : ℕ) → n < 4 → n % 4 ≡ n
small n h = omega arith

abbrev front : Control → List ℕ
front c = c.count ∷ c.size ∷ c.lead ∷ c.turn ∷ bool_byte c.way ∷ []

pub control_written : (ys : List ℕ) (c : Control) → c.count ≤ 4 → c.lead < 4 → c.turn < 4 → ys ≡ front c → control_of ys ≡ c
control_written ys c p q r e =
    ap control_of e
    ∙ (λ i. record { count = least c.count p i; size = c.size; lead = small c.lead q i; turn = small c.turn r i; way = flag_byte c.way i })

pub control_within : (b : List ℕ) (c : Control) → c ≡ control_of b → (c.count ≤ 4) × (c.lead < 4) × (c.turn < 4)
control_within b c e = (
  omega (arith, ap (λ (x : Control). x.count) e),
  omega (arith, ap (λ (x : Control). x.lead) e),
  omega (arith, ap (λ (x : Control). x.turn) e),
)

-- the ten regions of the words: how many words each has, and where it begins
abbrev pub size : ℕ → ℕ
size r = get_or (140 ∷ 4 ∷ 5 ∷ 4 ∷ 4 ∷ 48 ∷ 12 ∷ 20 ∷ 512 ∷ 2560 ∷ []) r 0

abbrev pub from : ℕ → ℕ
from zero = 0
from (suc r) = from r + size r

-- what each region has, and the state that they make
abbrev pub region : List ℕ → ℕ → List ℕ
region w r = part (from r) (size r) w

abbrev pub state_by : (ℕ → List ℕ) → State rv
state_by f = state_from (cpus_of (f 0)) (ons_of (f 1)) (control_of (f 2)) (dues_of (f 3)) (sweeps_of (f 4)) (grants_of (f 5)) (probes_of (f 6)) (requests_of (f 7)) (entries_of (f 8)) (caches_of (f 9))

pub by_regions : (w : List ℕ) → state_of w ≡ state_by (region w)
unfolding state_of
by_regions w = refl

-- a region ends where a later one begins, or before
rising : (r s : ℕ) → r ≤ s → from r ≤ from s
rising r zero h = let e : r ≡ 0 = omega arith in rw e (omega arith)
rising r (suc s) h = elim (cases_eq r (suc s)) [ inl e ↦ rw e (omega arith) | inr ne ↦ let l = rising r s (omega arith) in omega arith ]

beside : (r s : ℕ) → (s ≡ r → ⊥) → (from s + size s ≤ from r) ⊎ (from r + size r ≤ from s)
beside r s ne =
    elim (cases_order s r) [ inl e ↦ absurd (ne e) | inr (inl l) ↦ inl (rising (suc s) r (omega arith)) | inr (inr l) ↦ inr (rising (suc r) s (omega arith)) ]

-- the state, after one region of the words was written
pub wrote : (r : ℕ) (w ys : List ℕ) → r < 10 → length ys ≡ size r → 3309 ≤ length w → state_of (put_mid (from r) (size r) w ys) ≡ state_by (put (region w) r ys)
wrote r w ys h e l =
    let end : from (suc r) ≤ from 10 = rising (suc r) 10 (omega arith) in
    let fits : from r + size r ≤ length w = omega arith in
    by_regions (put_mid (from r) (size r) w ys)
    ∙ ap state_by (put_is (region w) _ r ys (part_here (from r) (size r) (size r) w ys e fits) (λ s ne. part_other (from s) (size s) (from r) (size r) w ys e fits (beside r s ne)))

-- the state lies in the first 3,309 words
same_by : (f g : ℕ → List ℕ) → ((r : ℕ) → r < 10 → f r ≡ g r) → state_by f ≡ state_by g
same_by f g h =
    λ i. state_from (cpus_of (h 0 (omega arith) i)) (ons_of (h 1 (omega arith) i)) (control_of (h 2 (omega arith) i)) (dues_of (h 3 (omega arith) i)) (sweeps_of (h 4 (omega arith) i))
    (grants_of (h 5 (omega arith) i)) (probes_of (h 6 (omega arith) i)) (requests_of (h 7 (omega arith) i)) (entries_of (h 8 (omega arith) i)) (caches_of (h 9 (omega arith) i))

state_front : (w : List ℕ) → state_of (part 0 3309 w) ≡ state_of w
state_front w = by_regions (part 0 3309 w) ∙ same_by (region (part 0 3309 w)) (region w) at ∙ sym (by_regions w)
  where
    at : (r : ℕ) → r < 10 → region (part 0 3309 w) r ≡ region w r
    at r h =
        let end : from (suc r) ≤ from 10 = rising (suc r) 10 (omega arith) in
        part_part 0 3309 (from r) (size r) w (omega arith) ∙ ap (λ a. part a (size r) w) (omega arith)

pub read_front : (w : List ℕ) → state_of (take 3309 w) ≡ state_of w
unfolding part
read_front w = state_front w

pub wrote_front : (w ys : List ℕ) → length ys ≡ 3309 → 3309 ≤ length w → state_of (put_mid 0 3309 w ys) ≡ state_of ys
wrote_front w ys e h = sym (state_front (put_mid 0 3309 w ys)) ∙ ap state_of (part_here 0 3309 3309 w ys e h)

-- core k's own cache is a part of the last region
own_part : (w : List ℕ) (k : ℕ) → k < 4 → block 640 (part 749 2560 w) k ≡ part (749 + 640 * k) 640 w
own_part w k h = part_part 749 2560 (640 * k) 640 w (omega arith)

pub own_slots : (w : List ℕ) (k n : ℕ) → k < 4 → n ≡ 640 → Own k (state_of w).lines.slot (slots_of (take n (drop (749 + 640 * k) w)))
unfolding state_of
own_slots w k n h e i l =
    ap (λ b. slots_of b i) (part_is (749 + 640 * k) 640 n w e ∙ sym (own_part w k h)) ∙ own_words (part 749 2560 w) k h i l

-- the state, after core k's own cache was written
pub wrote_own : (w ys : List ℕ) (k n : ℕ) → k < 4 → n ≡ 640 → length ys ≡ 640 → 3309 ≤ length w →
    state_of (put_mid (749 + 640 * k) n w ys) ≡ with_slots (state_of w) (with_own k (state_of w).lines.slot (slots_of ys))
unfolding state_of
wrote_own w ys k n h f e l =
    rw f
    (let v = put_mid (749 + 640 * k) 640 w ys in
    let inside : 749 + 640 * k + 640 ≤ length w = omega arith in
    ap state_by (put_is (region w) (region v) 9 (part 749 2560 v) refl (λ s ne. part_other (from s) (size s) (749 + 640 * k) 640 w ys e inside (away s ne)))
    ∙ ap (with_slots (state_of w))
    (caches_changed (part 749 2560 v) (part 749 2560 w) k h
    (λ j b ne. own_part v j b ∙ part_other (749 + 640 * j) 640 (749 + 640 * k) 640 w ys e inside (next j ne) ∙ sym (own_part w j b))
    ∙ ap (λ b. with_own k (caches_of (part 749 2560 w)) (slots_of b)) (own_part v k h ∙ part_here (749 + 640 * k) 640 640 w ys e inside)))
  where
    away : (s : ℕ) → (s ≡ 9 → ⊥) → (from s + size s ≤ 749 + 640 * k) ⊎ (749 + 640 * k + 640 ≤ from s)
    away s ne =
        elim (cases_order s 9) [
          | inl e' ↦ absurd (ne e')
          | inr (inl a) ↦ let m : from (suc s) ≤ from 9 = rising (suc s) 9 (omega arith) in inl (omega arith)
          | inr (inr a) ↦ let m : from 10 ≤ from s = rising 10 s (omega arith) in inr (omega arith)
        ]

    next : (j : ℕ) → (j ≡ k → ⊥) → (749 + 640 * j + 640 ≤ 749 + 640 * k) ⊎ (749 + 640 * k + 640 ≤ 749 + 640 * j)
    next j ne = elim (apart 640 k j ne) [ inl a ↦ inl (omega arith) | inr a ↦ inr (omega arith) ]
