-- Neither slice is too short, so it is the cycle on the words that are used.
use Rattle.std.proofs.Common.{length, ◌∙◌}
use Rattle.std.proofs.lemmas.Bool.{le-ltb, cond-false}
use Rattle.cached.proofs.cycle.cycle.Goals as goal

pub returns : goal.returns
returns c = (
  cond-false _ _ _ (le-ltb (length c.args.chip.now) 16384 c.if-chip-lt16384.false) ∙ cond-false _ _ _ (le-ltb (length c.args.said.now) 16 c.if-said-lt16.false),
  c.cycle_in.ensures.done,
  c.cycle_in.ensures.unused,
  c.cycle_in.ensures.unsaid,
)
