-- The table, computed.
use Rattle.cores.proofs.Programs.{programs_say}
use Rattle.cores.proofs.programs_say.Goals as goal

pub returns : goal.returns
returns c = programs_say
