-- The lent words and the numbers of cores for which a call of a chip is refused.
-- Assumes nothing: these are definitions.
use Rattle.std.specs.Prelude.{ℕ, ◌&&◌, Some, None, Option, nat_lt}
use Rattle.cores.specs.Machines.{pick}
use Rattle.cores.specs.declared.port.Fault.{Fault}
use Rattle.cores.specs.declared.port.Fault.TheVariants.{ChipShort, SaidShort, Cores}

-- why a new chip is refused, if it is: for so many lent words and so many cores
abbrev pub fresh_fault : ℕ → ℕ → Option Fault
fresh_fault words cores = pick (nat_lt words 16384) (Some ChipShort) (pick (nat_lt 0 cores && nat_lt cores 5) None (Some Cores))

-- why a cycle is refused, if it is: for so many lent words of the chip and for words said
abbrev pub cycle_fault : ℕ → ℕ → Option Fault
cycle_fault words said = pick (nat_lt words 16384) (Some ChipShort) (pick (nat_lt said 16) (Some SaidShort) None)

-- why it is not told whether every core has stopped, if it is not
abbrev pub stopped_fault : ℕ → Option Fault
stopped_fault words = pick (nat_lt words 16384) (Some ChipShort) None
