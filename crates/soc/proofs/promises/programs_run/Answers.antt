-- The programs are computed.
use Rattle.soc.proofs.Runs.{programs_run}
use Rattle.soc.proofs.promises.programs_run.Goals as goal

pub returns : goal.returns
returns c = programs_run
