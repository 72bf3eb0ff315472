-- The lines of the places looked at so far are gathered.
use Rattle.cached.proofs.Gathered.{Gathered}
use Rattle.cached.proofs.cycle.in_four.Given as goal

abbrev pub invariant-loop-place : goal.invariant-loop-place
invariant-loop-place l = Gathered l.fn.row l.place-index l.four l.n
