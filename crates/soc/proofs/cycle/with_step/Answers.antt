-- The places from the fifth on are empty.
use Rattle.std.proofs.Common.{Some, arith}
use Rattle.cores.specs.Ports.{event_of}
use Rattle.cores.specs.declared.port.Event.TheVariants.{Step}
use Rattle.soc.proofs.Outs.{somes_set}
use Rattle.soc.proofs.cycle.with_step.Goals as goal

pub returns : goal.returns
returns c = somes_set event_of c.args.did 4 (Some (Step c.args.k)) (omega arith) c.requires
