-- How the cores' registers lie in lent words, and whether each core goes.
-- Every content of the words is registers of four cores. Assumes nothing: these are definitions.
use Rattle.std.specs.Prelude.{ℕ, Bool, not, ◌&&◌, List, ◌==◌, nat_lt, slice_index}
use Rattle.words.specs.Parts.{part, block}
use Rattle.rv32.specs.Execute.{start}
use Rattle.rv32.specs.declared.core_state.Core.{Core}
use Rattle.cores.specs.Machines.{pick}

-- a word that says yes or no
abbrev pub flag : ℕ → Bool
flag x = not (x == 0)

-- 35 words of a core: pc, where the last interrupt came from, whether interrupts are let, and its 32 registers
abbrev pub core_of : List ℕ → Core
core_of b = record { pc = slice_index b 0; registers = part 3 32 b; epc = slice_index b 1; lets = flag (slice_index b 2) }

-- four cores; a core that is not there is a new one
abbrev pub cpus_of : List ℕ → ℕ → Core
cpus_of words k = pick (nat_lt k 4) (core_of (block 35 words k)) (start 0)

-- whether each goes: a word for each; a core that is not there is off
abbrev pub ons_of : List ℕ → ℕ → Bool
ons_of words k = nat_lt k 4 && flag (slice_index words k)
