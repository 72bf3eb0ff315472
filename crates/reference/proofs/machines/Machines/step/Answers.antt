-- A core that is off does nothing; one that goes does what its instruction does.
use Rattle.reference.proofs.Agree.{off_step, performed_step}
use Rattle.reference.proofs.machines.Machines.step.Goals as goal

pub returns-in_default : goal.returns-in_default
returns-in_default c = λ said. off_step c.args.self.now c.args.memory.now c.args.k said (c.in_default.ensures c.args.memory.now said)

pub returns : goal.returns
returns c =
    rw (c.after.ensures, c.store.ensures, c.of.ensures)
    (performed_step c.args.self.now c.args.memory.now c.args.k c.in-Some.machine c.in-Some.ensures c.effect_of-effect.result
    c.effect_of-effect.ensures.value c.effect_of-effect.ensures.within)
