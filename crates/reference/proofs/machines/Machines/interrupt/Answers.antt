-- A core that is off does nothing; one that goes takes the interrupt, whether it is let or not.
use Rattle.std.proofs.Common.{sym, refl}
use Rattle.reference.proofs.Agree.{off_interrupt, performed_interrupt}
use Rattle.reference.proofs.machines.Machines.interrupt.Goals as goal

pub returns-in_default : goal.returns-in_default
returns-in_default c = λ words said. off_interrupt c.args.self.now words c.args.k said (c.in_default.ensures words said)

pub returns-then-machine : goal.returns-then-machine
returns-then-machine c =
    λ words. rw c.interrupted.ensures (performed_interrupt c.args.self.now words c.args.k c.in-Some.machine c.in-Some.ensures _ _ (sym c.if-machine.true) refl refl)

pub returns-else-machine : goal.returns-else-machine
returns-else-machine c =
    λ words. rw c.interrupted.ensures (performed_interrupt c.args.self.now words c.args.k c.in-Some.machine c.in-Some.ensures _ _ (sym c.if-machine.false) refl refl)
