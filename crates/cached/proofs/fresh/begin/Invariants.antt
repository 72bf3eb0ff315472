-- So far the first cores are new, and on or off; and nothing else is anywhere.
use Rattle.cached.specs.Layout.{state_of}
use Rattle.cached.proofs.Begun.{Begun}
use Rattle.cached.proofs.fresh.begin.Given as goal

abbrev pub invariant-loop-k : goal.invariant-loop-k
invariant-loop-k l = Begun l.k l.cores (state_of l.chip)
