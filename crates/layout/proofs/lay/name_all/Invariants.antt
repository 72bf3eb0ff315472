-- The statements that are left give what all of them do.
use Rattle.std.proofs.Common.{◌≡◌, drop}
use Rattle.layout.specs.Layout.{values_from}
use Rattle.layout.proofs.lay.name_all.Given as goal

abbrev pub invariant-loop-statement : goal.invariant-loop-statement
invariant-loop-statement l = values_from l.size l.here (drop l.statement-index l.statements) l.values ≡ values_from l.size 0 l.statements l.initial.values
