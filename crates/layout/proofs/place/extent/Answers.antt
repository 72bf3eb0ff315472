-- A smaller memory that goes so far has the statements at the same places.
use Rattle.layout.proofs.Places.{enough}
use Rattle.layout.proofs.place.extent.Goals as goal

pub returns-clause-enough : goal.returns-clause-enough
returns-clause-enough c = enough c.args.size c.end.result c.args.statements.now c.end.ensures
