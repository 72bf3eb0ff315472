-- The slice that is written is the block of the slot, and no other.
use Rattle.std.proofs.Common.{◌*◌, refl, ◌/◌, ◌%◌, true, set, sym, ap, ◌∙◌, arith, rules}
use Rattle.words.proofs.Parts.{part_is}
use Rattle.words.proofs.Tables.{width}
use Rattle.cache.specs.Slots.{found, has, holds, words}
use Rattle.cache.specs.Words.{slot_of, slots_of, stored_at}
use Rattle.cache.proofs.Found.{slot_here, stored_slots}
use Rattle.cache.proofs.lookup.store_at.Goals as goal

pub store_in-requires : goal.store_in-requires
store_in-requires c =
    let w = c.args.cache.now in
    let i = c.number-from.result in
    let e = width (10 * i) 10 10 refl in (
      search rules,
      ap (λ b. has (slot_of b) (c.args.number / 8)) (part_is (10 * i) 10 _ w e)
          ∙ ap (λ s. has s (c.args.number / 8)) (sym (slot_here w i c.number-from.ensures.below) ∙ ap (slots_of w) c.number-from.ensures.value)
          ∙ c.requires,
    )

pub returns : goal.returns
returns c =
    let w = c.args.cache.now in
    let i = c.number-from.result in
    let e = width (10 * i) 10 10 refl in
    stored_slots w c.store_in.new.block i _ c.args.number c.args.value c.number-from.ensures.below (omega arith) (omega arith) e
    (c.store_in.ensures ∙ ap (λ b. holds (c.args.number / 8) true true (set (words (slot_of b)) (c.args.number % 8) c.args.value)) (part_is (10 * i) 10 _ w e))
    ∙ ap (λ j. stored_at (found j) c.args.number c.args.value (slots_of w)) c.number-from.ensures.value
