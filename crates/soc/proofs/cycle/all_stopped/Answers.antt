-- The slice is not too short, and the words that are used are the first.
use Rattle.std.proofs.Common.{length, ap, ◌∙◌}
use Rattle.std.proofs.lemmas.Bool.{le-ltb, cond-false}
use Rattle.soc.specs.Layout.{state_of}
use Rattle.soc.specs.Stopped.{all_off}
use Rattle.soc.proofs.Regions.{read_front}
use Rattle.soc.proofs.cycle.all_stopped.Goals as goal

pub returns : goal.returns
returns c =
    let w = c.args.chip.now in
    let first = rw c.unwrap.ensures at c.first_chunk.ensures.cases in (
      cond-false _ _ _ (le-ltb (length w) 16384 c.if-chip-lt16384.false),
      c.none_goes.ensures ∙ ap (λ v. all_off (state_of v)) first.same ∙ ap all_off (read_front w),
    )
