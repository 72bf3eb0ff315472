-- The slot that was found has the word.
use Rattle.std.proofs.Common.{◌/◌, ap, ◌∙◌}
use Rattle.cache.specs.Slots.{found, has}
use Rattle.cache.specs.Words.{slots_of}
use Rattle.cache.proofs.Found.{word_here}
use Rattle.cache.proofs.lookup.word.Goals as goal

pub returns-in-Some : goal.returns-in-Some
returns-in-Some c =
    let w = c.args.cache.now in
    let i = c.number.ensures.value in
    word_here w c.number.result _ c.args.number _ c.number.ensures.below (ap (λ j. has (slots_of w j) (c.args.number / 8)) i ∙ c.in-Some.ensures.there) (ap found i ∙ c.in-Some.ensures.value)
