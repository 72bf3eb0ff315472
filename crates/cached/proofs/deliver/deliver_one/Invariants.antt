-- So far the line has come for the first cores.
use Rattle.std.proofs.Common.{◌≡◌}
use Rattle.cached.specs.Layout.{state_of}
use Rattle.cached.specs.Lines.{deliver_one}
use Rattle.cached.specs.Rv.{rv}
use Rattle.cached.specs.Soc.{with_lines_of}
use Rattle.cached.proofs.deliver.deliver_one.Given as goal

abbrev pub invariant-loop-k : goal.invariant-loop-k
invariant-loop-k l =
    state_of l.chip ≡ with_lines_of rv (deliver_one l.k l.line.number l.line.words (state_of l.initial.chip).lines) (state_of l.initial.chip)
