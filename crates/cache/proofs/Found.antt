-- A slot that has a line: its words, and what a store makes of it.
use Rattle.std.proofs.Common.{◌≡◌, ℕ, ◌+◌, ◌*◌, ◌/◌, ◌%◌, ◌<◌, Bool, true, false, not, eqb, List, length, get_or, take, drop, set, sym, refl, ap, ◌∙◌, ap₂, arith, drop-set-lt}
use mathlib.Core.Bool.{false≢true}
use borrow.Rule.Slice.PartMut.{put_mid}
use lib.Seq.{take-set-lt, drop-set-add}
use Rattle.std.proofs.lemmas.List.{get_or-set_same, get_or-set_other}
use Rattle.std.proofs.lemmas.Bool.{eqb-true, lt-ltb, cond-true}
use Rattle.words.specs.Parts.{part, block, table}
use Rattle.words.proofs.Parts.{part_word}
use Rattle.words.proofs.Tables.{place_written, within_written}
use Rattle.cores.specs.Machines.{pick}
use Rattle.cores.specs.Put.{put}
use Rattle.cache.specs.Slots.{empty, holds, has, words, Found, found, word_at}
use Rattle.cache.specs.Words.{holding, tag_of, slot_of, slots_of, stored_at}
use Rattle.cache.specs.declared.slot.Slot.{Slot}
use Rattle.cache.specs.declared.slot.Slot.TheVariants.{Empty, Shared, Owned}

has_words : (s : Slot) (w : List ℕ) (a : ℕ) → has (holding s w) a ≡ true → words (holding s w) ≡ w
has_words Empty w a h = absurd (false≢true h)
has_words (Shared b) w a h = refl
has_words (Owned b d) w a h = refl

has_number : (x y z : Bool) (n a : ℕ) (w : List ℕ) → has (holding (pick x Empty (pick y (Shared n) (Owned n z))) w) a ≡ true → n ≡ a
has_number true y z n a w h = absurd (false≢true h)
has_number false true z n a w h = eqb-true n a h
has_number false false z n a w h = eqb-true n a h

pub slot_here : (w : List ℕ) (i : ℕ) → i < 64 → slots_of w i ≡ slot_of (block 10 w i)
slot_here w i h = cond-true _ _ _ (lt-ltb i 64 h)

-- a word of a slot that has its line
pub word_here : (w : List ℕ) (i a x : ℕ) (f : Found) → i < 64 → has (slots_of w i) a ≡ true → found i ≡ f →
    get_or w (10 * i + 2 + x % 8) 0 ≡ word_at (slots_of w) f x
word_here w i a x f h l e =
    let b = block 10 w i in
    let here : slots_of w i ≡ slot_of b = slot_here w i h in
    let full : words (slots_of w i) ≡ part 2 8 b = ap words here ∙ has_words (tag_of (get_or b 0 0) (get_or b 1 0)) (part 2 8 b) a (ap (λ s. has s a) (sym here) ∙ l) in
    rw (← e)
    (ap (λ j. get_or w j 0) (omega arith)
    ∙ sym (part_word (10 * i) 10 w (2 + x % 8) 0 (omega arith))
    ∙ sym (part_word 2 8 b (x % 8) 0 (omega arith))
    ∙ sym (ap (λ t. get_or t (x % 8) 0) full))

-- ten words after a store
part_set : (b : List ℕ) (j v : ℕ) → j < 8 → part 2 8 (set (set b 0 3) (2 + j) v) ≡ set (part 2 8 b) j v
unfolding part
part_set b j v h =
    ap (take 8) (drop-set-add 2 (set b 0 3) j v)
    ∙ take-set-lt 8 (drop 2 (set b 0 3)) j v h
    ∙ ap (λ t. set (take 8 t) j v) (drop-set-lt 2 b 0 3 (omega arith))

pub stored_here : (b : List ℕ) (y v : ℕ) → length b ≡ 10 → has (slot_of b) (y / 8) ≡ true →
    slot_of (set (set b 0 3) (2 + y % 8) v) ≡ holds (y / 8) true true (set (words (slot_of b)) (y % 8) v)
stored_here b y v l h =
    let x = set (set b 0 3) (2 + y % 8) v in
    let kind : get_or x 0 0 ≡ 3 = get_or-set_other (set b 0 3) (2 + y % 8) 0 v 0 (omega arith) ∙ get_or-set_same b 0 3 0 (omega arith) in
    let line : get_or x 1 0 ≡ y / 8 =
    get_or-set_other (set b 0 3) (2 + y % 8) 1 v 0 (omega arith) ∙ get_or-set_other b 0 1 3 0 (omega arith) ∙ has_number (eqb (get_or b 0 0) 0) (eqb (get_or b 0 0) 1) (not (eqb (get_or b 0 0) 2)) (get_or b 1 0) (y / 8) (part 2 8 b) h in
    let rest : part 2 8 x ≡ set (words (slot_of b)) (y % 8) v =
    part_set b (y % 8) v (omega arith) ∙ ap (λ t. set t (y % 8) v) (sym (has_words (tag_of (get_or b 0 0) (get_or b 1 0)) (part 2 8 b) (y / 8) h)) in
    ap₂ holding (ap₂ tag_of kind line) rest

-- a cache after a store into slot i
pub stored_slots : (w ys : List ℕ) (i n y v : ℕ) → i < 64 → length w ≡ 640 → length ys ≡ 10 → n ≡ 10 →
    slot_of ys ≡ holds (y / 8) true true (set (words (slot_of (block 10 w i))) (y % 8) v) → slots_of (put_mid (10 * i) n w ys) ≡ stored_at (found i) y v (slots_of w)
stored_slots w ys i n y v h l e m x =
    within_written 64 empty (table 10 (λ _. slot_of) w) _ i _ h (place_written 10 (λ _. slot_of) w i 10 n ys _ refl m e (omega arith) x)
    ∙ ap (λ s. put (slots_of w) i (holds (y / 8) true true (set (words s) (y % 8) v))) (sym (slot_here w i h))
