-- What the programs say that run on the chip, computed.
use Rattle.std.proofs.Common.{refl}
use Rattle.rv32.specs.Decode.{decode}
use Rattle.rv32.specs.Execute.{fetch, execute, need, does, one}
use Rattle.cores.specs.Board.{with_lines, among, handed, kept, board_after, cycles, powered}
use Rattle.cores.specs.Loop.{each}
use Rattle.cores.specs.Machines.{word}
use Rattle.cached.specs.Soc.{stepped, cycle}
use Rattle.directory.specs.Directory.{free, unhurried}
use Rattle.cached.specs.Lines.{deliver_one, deliver_all}
use Rattle.cached.specs.Runs.{Say, table, WritesBack}

pub programs_run : Say 8 table
unfolding with_lines among handed kept board_after cycles powered decode fetch execute need does one each free unhurried deliver_one deliver_all stepped cycle
programs_run = refl

pub writes_back : WritesBack
unfolding word with_lines among handed kept board_after cycles powered decode fetch execute need does one each free unhurried deliver_one deliver_all stepped cycle
writes_back = record { old = refl; new = refl }
