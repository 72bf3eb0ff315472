-- It is read from one region.
use Rattle.words.specs.Parts.{part}
use Rattle.cached.specs.Layout.{state_of}
use Rattle.cached.proofs.regions.probe_for.Goals as goal

pub returns : goal.returns
unfolding part state_of
returns c = c.probe_for.ensures
