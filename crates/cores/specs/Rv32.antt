-- The cores of this chip as a kind of core: RV32I, as the crate rv32 defines it.
-- Assumes nothing: these are definitions.
use Rattle.rv32.specs.Execute.{start, one, enters, lets}
use Rattle.rv32.specs.declared.core_state.Core.{Core}
use Rattle.cores.specs.Machines.{Isa}

abbrev pub rv32 : Isa
rv32 = record { Cpu = Core; start = start; one = one; enters = enters; lets = lets }
