-- What one instruction does, for registers of any kind `Cpu`.
-- Assumes nothing: these are definitions.
use Rattle.std.specs.Prelude.{ℕ, Bool, true, false, Some, None, Option}

-- the core goes on; it goes on and stores a word (its number in memory, its value); it goes on and says a word to the outside; or it stops.
-- An instruction that exchanges a word with memory reads and stores it in one
pub data Did (Cpu : Type 0) : Type 0 where
  goes : Cpu → Did Cpu
  stores : ℕ → ℕ → Cpu → Did Cpu
  says : ℕ → Cpu → Did Cpu
  stops : Did Cpu

-- the registers after an instruction, and whether the core goes on
abbrev pub cpu_after : {Cpu : Type 0} → Cpu → Did Cpu → Cpu
cpu_after c (goes d) = d
cpu_after c (stores a x d) = d
cpu_after c (says x d) = d
cpu_after c stops = c

abbrev pub on_after : {Cpu : Type 0} → Did Cpu → Bool
on_after (goes d) = true
on_after (stores a x d) = true
on_after (says x d) = true
on_after stops = false

-- the word that is said to the outside
abbrev pub said_after : {Cpu : Type 0} → Did Cpu → Option ℕ
said_after (goes d) = None
said_after (stores a x d) = None
said_after (says x d) = Some x
said_after stops = None
