-- What is found so far and the statements that are left give what all of them do.
use Rattle.std.proofs.Common.{◌≡◌, ◌≤◌, ◌++◌, drop, vec_items}
use Rattle.layout.specs.Layout.{faults_from, laid_from}
use Rattle.layout.proofs.lay.write_all.Given as goal

abbrev pub invariant-loop-index : goal.invariant-loop-index
invariant-loop-index l = record {
  faults : vec_items l.faults ++ faults_from l.size l.values l.index l.here (drop l.index l.statements) ≡ faults_from l.size l.values 0 0 l.statements;
  memory : laid_from l.size l.values l.here (drop l.index l.statements) l.memory ≡ laid_from l.size l.values 0 l.statements l.initial.memory;
  inside : l.here ≤ l.size;
}
