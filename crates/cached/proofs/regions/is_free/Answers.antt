-- It is read from one region.
use Rattle.words.specs.Parts.{part}
use Rattle.cached.specs.Layout.{state_of}
use Rattle.cached.proofs.regions.is_free.Goals as goal

pub returns : goal.returns
unfolding part state_of
returns c = c.is_free.ensures
