-- The run, computed.
use Rattle.std.proofs.Common.{refl}
use Rattle.cores.specs.Machines.{fresh_cores}
use Rattle.cores.specs.Board.{with_lines, among, handed, kept, board_after, cycles, powered}
use Rattle.cores.specs.Loop.{each}
use Rattle.cores.proofs.toy_runs.Goals as goal

pub returns : goal.returns
unfolding fresh_cores with_lines among handed kept board_after cycles powered each
returns c = record { asks = refl; ends = refl }
