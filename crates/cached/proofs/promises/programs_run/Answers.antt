-- The programs are computed.
use Rattle.cached.proofs.Runs.{programs_run, writes_back}
use Rattle.cached.proofs.promises.programs_run.Goals as goal

pub returns : goal.returns
returns c = (programs_run, writes_back)
