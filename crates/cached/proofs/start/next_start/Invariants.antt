-- The cores that have been asked can't be started.
use Rattle.cached.specs.Layout.{state_of}
use Rattle.cached.proofs.Cycles.{Looking}
use Rattle.cached.proofs.start.next_start.Given as goal

abbrev pub invariant-loop-asked : goal.invariant-loop-asked
invariant-loop-asked l = Looking (state_of l.chip) l._asked l.k
