-- The record at a place is the first of the cycles from there on.
use Rattle.image.proofs.Cycles.{cycles_cut, cycles_more, weaker}
use Rattle.image.proofs.choices.cycle_at.Goals as goal

pub returns : goal.returns
returns c = weaker c.record_at.result _ _ _ _ c.record_at.ensures (cycles_cut _ _) (λ x h. cycles_more _ _ _ _ _ h)
