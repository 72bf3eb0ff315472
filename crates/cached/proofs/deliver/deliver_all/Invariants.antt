-- The lines that are left lead to what all of them do.
use Rattle.std.proofs.Common.{◌≡◌, drop}
use Rattle.cached.specs.Layout.{state_of}
use Rattle.cached.proofs.Arrivals.{after_lines}
use Rattle.cached.proofs.deliver.deliver_all.Given as goal

abbrev pub invariant-loop-line : goal.invariant-loop-line
invariant-loop-line l = after_lines (drop l.line-index l.given) (state_of l.chip) ≡ after_lines l.given (state_of l.initial.chip)
