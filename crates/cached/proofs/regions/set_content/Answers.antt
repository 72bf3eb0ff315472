-- A place of the last region is written, and the others stay.
use Rattle.std.proofs.Common.{◌+◌, ◌*◌, ap, ◌∙◌, arith}
use Rattle.words.specs.Parts.{part}
use Rattle.cores.specs.Put.{put}
use Rattle.cache.specs.Words.{content_of}
use Rattle.cache.proofs.Own.{place_written}
use Rattle.cached.specs.Layout.{state_of, with_slots}
use Rattle.cached.proofs.Written.{wrote}
use Rattle.cached.proofs.regions.set_content.Goals as goal

pub returns : goal.returns
unfolding part state_of
returns c =
    let w = c.args.chip.now in
    let v = c.put_at.new.words in
    let k = c.args.k in
    wrote 9 w v (omega arith) (omega arith) (omega arith)
    ∙ ap (with_slots (state_of w))
    (place_written 256 v (part 749 2560 w) (64 * k + c.number.result) (content_of c.args.content) (omega arith) c.put_at.ensures
    ∙ ap (λ i. put (state_of w).lines.slot (64 * k + i) (content_of c.args.content)) c.number.ensures.value)
