-- It is read of a place of the last region.
use Rattle.std.proofs.Common.{◌+◌, ◌*◌, ap, ◌∙◌, arith}
use Rattle.words.specs.Parts.{part, block}
use Rattle.cache.proofs.Own.{place_read}
use Rattle.cache.proofs.Written.{tag_of_slot}
use Rattle.cached.specs.Layout.{state_of}
use Rattle.cached.proofs.regions.tag.Goals as goal

pub returns : goal.returns
unfolding part state_of
returns c =
    let w = c.args.chip.now in
    let k = c.args.k in
    tag_of_slot (block 10 (part 749 2560 w) (64 * k + c.number.result)) _ _ c.at.ensures
    (place_read 256 (part 749 2560 w) (64 * k + c.number.result) (omega arith) ∙ ap (λ i. (state_of w).lines.slot (64 * k + i)) c.number.ensures.value)
