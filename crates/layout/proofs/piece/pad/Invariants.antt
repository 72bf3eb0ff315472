-- What is left to pad gives what all of it does.
use Rattle.std.proofs.Common.{◌≡◌, ◌-◌}
use Rattle.layout.specs.Layout.{padding, written}
use Rattle.layout.proofs.piece.pad.Given as goal

abbrev pub invariant-loop-at : goal.invariant-loop-at
invariant-loop-at l = written l.at (padding l.at (l.to - l.at)) l.memory ≡ written l.from (padding l.from (l.to - l.from)) l.initial.memory
