-- What the programs say, computed.
use Rattle.std.proofs.Common.{refl}
use Rattle.rv32.specs.Decode.{decode}
use Rattle.rv32.specs.Execute.{execute, does, one}
use Rattle.cores.specs.Machines.{word, with_word, core, after, event, events, begins, fresh_cores}
use Rattle.cores.specs.Programs.{ProgramsSay}

pub programs_say : ProgramsSay
unfolding word with_word core after event events begins fresh_cores decode execute does one
programs_say = (refl, (tt, (tt, (tt, (tt, (tt, (tt, (tt, (tt, (tt, (((refl, refl), tt), tt)))))))))))
