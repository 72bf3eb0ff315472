-- A core past the count or past the row is not there; one that is there has what its machine has.
use Rattle.std.proofs.Common.{ap, ◌∙◌, inl, inr, arith}
use Rattle.cores.specs.Machines.{Core}
use Rattle.cores.specs.Rv32.{rv32}
use Rattle.reference.proofs.Agree.{here, not_here}
use Rattle.reference.proofs.machines.Machines.running.Goals as goal

pub returns-then-k-self : goal.returns-then-k-self
returns-then-k-self c = λ words said. not_here c.args.self.now words c.args.k said (elim c.then-k-self.either [ inl h ↦ omega arith | inr h ↦ omega arith ])

pub returns-else-machine : goal.returns-else-machine
returns-else-machine c =
    λ words said. ap (λ (x : Core rv32). x.on) (here c.args.self.now words c.args.k _ said (omega arith) (omega arith)) ∙ c.if-machine.false
