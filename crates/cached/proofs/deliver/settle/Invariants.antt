-- So far it is settled for the first cores.
use Rattle.std.proofs.Common.{◌≡◌}
use Rattle.cached.specs.Layout.{state_of, with_dues}
use Rattle.cached.specs.Puts.{dues}
use Rattle.cached.proofs.Arrivals.{upto}
use Rattle.cached.proofs.deliver.settle.Given as goal

abbrev pub invariant-loop-k : goal.invariant-loop-k
invariant-loop-k l =
    state_of l.chip ≡ with_dues (state_of l.initial.chip) (upto l.k (dues (state_of l.initial.chip)) (state_of l.initial.chip).hints.due)
