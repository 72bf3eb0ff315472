-- So far the first cores have taken theirs.
use Rattle.std.proofs.Common.{◌≡◌}
use Rattle.cores.specs.Loop.{each, silent}
use Rattle.cached.specs.Layout.{state_of}
use Rattle.cached.specs.Rv.{rv}
use Rattle.cached.specs.Soc.{take_due}
use Rattle.cached.proofs.reply.take_all.Given as goal

abbrev pub invariant-loop-k : goal.invariant-loop-k
invariant-loop-k l = (state_of l.chip, silent) ≡ each (take_due rv) l.k (state_of l.initial.chip)
