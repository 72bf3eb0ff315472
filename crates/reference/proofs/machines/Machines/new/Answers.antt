-- Four new cores, of which so many are there.
use Rattle.std.proofs.Common.{arith}
use Rattle.reference.proofs.Agree.{begun}
use Rattle.reference.proofs.machines.Machines.new.Goals as goal

pub returns : goal.returns
returns c = (omega arith, λ words. begun _ _ _ _ c.args.count words (omega arith) c.new.ensures c.new-2.ensures c.new-3.ensures c.new-4.ensures)
