-- What the programs say that run on the chip, computed.
use Rattle.std.proofs.Common.{refl}
use Rattle.rv32.specs.Decode.{decode}
use Rattle.rv32.specs.Execute.{fetch, execute, need, does, one}
use Rattle.cores.specs.Board.{with_lines, among, handed, kept, board_after, cycles, powered}
use Rattle.cores.specs.Loop.{each}
use Rattle.soc.specs.Soc.{cycle}
use Rattle.soc.specs.Runs.{Say, table}

pub programs_run : Say 8 table
unfolding with_lines among handed kept board_after cycles powered decode fetch execute need does one each cycle
programs_run = refl
