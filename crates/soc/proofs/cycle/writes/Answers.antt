-- The other places are empty.
use Rattle.soc.proofs.Outs.{writes_one}
use Rattle.soc.proofs.cycle.writes.Goals as goal

pub returns : goal.returns
returns c = writes_one c.args.wrote
