-- Two rows of four places are one of eight.
use Rattle.std.proofs.Common.{arith}
use Rattle.cached.proofs.Cycles.{both_rows}
use Rattle.cached.proofs.cycle.both.Goals as goal

pub returns : goal.returns
returns c = rw (c.copy_from_slice.ensures.after, c.copy_from_slice-2.ensures.after) (both_rows c.args.first c.args.second (omega arith))
