-- What holds of the parts, from the invariant that every run keeps.
use Rattle.cached.proofs.Always.{all_parts}
use Rattle.cached.proofs.parts.all_hold.Goals as goal

pub returns : goal.returns
returns c = all_parts
