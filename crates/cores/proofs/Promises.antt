-- A chip that pays what it owes keeps all eight promises.
use Rattle.cores.specs.Machines.{Isa}
use Rattle.cores.specs.Board.{Chip}
use Rattle.cores.specs.Promise.{Promises}
use Rattle.cores.specs.Owed.{Owed}
use Rattle.cores.proofs.Runs.{same_said, when_raised, where_let, one_each, few, clean_after}
use Rattle.cores.proofs.Steady.{all_go_on, taken}

pub promises : (I : Isa) (C : Chip) → Owed I C → Promises I C
promises I C o = record {
  same_said = same_said I C o.Inv o.kept o.faithful;
  when_raised = when_raised I C o.Inv o.kept o.faithful;
  where_let = where_let I C o.Inv o.kept o.faithful;
  all_go_on = all_go_on I C o.Inv o.kept o.turns;
  taken = taken I C o.Inv o.kept o.faithful;
  one_each = one_each I C o.Inv o.kept o.faithful;
  few = few I C o.Inv o.kept o.bounded;
  clean_after = clean_after I C o.Inv o.kept o.drains;
}
