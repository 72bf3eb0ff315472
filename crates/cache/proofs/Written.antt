-- The words of a slot that are written, read back; and what that leaves of a cache.
use Rattle.std.proofs.Common.{◌≡◌, ℕ, ◌*◌, ◌<◌, List, length, get_or, refl, ap, ◌∙◌, inl, inr, arith}
use mathlib.Core.Path.{fun_ext}
use borrow.Rule.Slice.PartMut.{put_mid}
use Rattle.std.proofs.lemmas.Bool.{cases_lt, lt-ltb, le-ltb, cond-true, cond-false}
use Rattle.words.specs.Parts.{part, block}
use Rattle.words.proofs.Parts.{part_here, part_word}
use Rattle.cache.specs.Slots.{empty, words}
use Rattle.cache.specs.Slots as slots
use Rattle.cache.specs.Words.{holding, tag_of, slot_of, caches_of}
use Rattle.cache.specs.declared.slot.Slot.{Slot}
use Rattle.cache.specs.declared.slot.Slot.TheVariants.{Empty, Shared, Owned}

-- the words of a line that is written
pub line_written : (b zs : List ℕ) → length zs ≡ 8 → length b ≡ 10 → part 2 8 (put_mid 2 8 b zs) ≡ zs
line_written b zs h n = part_here 2 8 8 b zs h (omega arith)

-- caches whose kinds are all 0 are empty
pub caches_clear : (w : List ℕ) → ((p : ℕ) → p < 256 → get_or w (10 * p) 0 ≡ 0) → caches_of w ≡ (λ p. empty)
caches_clear w h = fun_ext (λ p. elim (cases_lt p 256) [ inl l ↦ cond-true _ _ _ (lt-ltb p 256 l) ∙ clear p l | inr l ↦ cond-false _ _ _ (le-ltb p 256 l) ])
  where
    clear : (p : ℕ) → p < 256 → slot_of (block 10 w p) ≡ empty
    clear p l =
        let kind : get_or (block 10 w p) 0 0 ≡ 0 = part_word (10 * p) 10 w 0 0 (omega arith) ∙ ap (λ j. get_or w j 0) (omega arith) ∙ h p l in
        ap (λ k. holding (tag_of k (get_or (block 10 w p) 1 0)) (part 2 8 (block 10 w p))) kind

-- a tag alone, with the words of its slot, is the slot
pub tag_of_slot : (b : List ℕ) (s : Slot) (x : slots.Slot) → s ≡ tag_of (get_or b 0 0) (get_or b 1 0) → slot_of b ≡ x → holding s (words x) ≡ x
tag_of_slot b s x e f = rw (← f, e) (tag_alone (tag_of (get_or b 0 0) (get_or b 1 0)) (part 2 8 b))
  where
    tag_alone : (t : Slot) (w : List ℕ) → holding t (words (holding t w)) ≡ holding t w
    tag_alone Empty w = refl
    tag_alone (Shared a) w = refl
    tag_alone (Owned a d) w = refl
