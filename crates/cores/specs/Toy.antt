-- A small kind of core, and a small chip for it that asks for lines, waits, takes interrupts and writes back late: what a chip owes can be paid.
-- Assumes nothing: these are definitions.
use Rattle.std.specs.Prelude.{ℕ, suc, ◌/◌, ◌%◌, Bool, true, false, ◌&&◌, List, [], ◌∷◌, length, ◌==◌, nat_lt, slice_index, slice_index_or, slice_set}
use Rattle.rv32.specs.Did.{Did, goes, stores, says, stops}
use Rattle.cores.specs.Machines.{pick, step, interrupt, Isa, Core, fresh_cores}
use Rattle.cores.specs.Board.{Out, Chip}
use Rattle.cores.specs.Loop.{silent, Step, then, each}
use Rattle.cores.specs.Owed.{following}

-- registers: the number of the next instruction's word, and whether interrupts are let
pub record Registers : Type 0 where
  pub pc : ℕ
  pub ready : Bool

-- on to the next word; interrupts are let again
abbrev pub onward : Registers → Registers
onward c = record { pc = suc c.pc; ready = true }

-- an instruction, by its word: 0 stops, 1 says its place, 2 stores 3 in its own place, any other does nothing
abbrev pub does : Registers → ℕ → Did Registers
does c w = pick (w == 0) stops (pick (w == 1) (says c.pc (onward c)) (pick (w == 2) (stores c.pc 3 (onward c)) (goes (onward c))))

-- the toy's cores: core k begins at word k, and one that leaves the memory stops
abbrev pub toy_isa : Isa
toy_isa = record {
  Cpu = Registers;
  start = λ k. record { pc = k; ready = true };
  one = λ n c read. pick (nat_lt (c.pc / 8) n) (does c (read c.pc)) stops;
  enters = λ c. record { pc = c.pc; ready = false };
  lets = λ c. c.ready;
}

-- what the chip is at, for the core whose turn it is: nothing yet; it has asked for the line of pc; it has that line; or, before the turn's
-- core begins, a line is still to be written
pub data Phase : Type 0 where
  idle : Phase
  waits : Phase
  holds : List ℕ → Phase
  dirty : ℕ → List ℕ → Phase

-- the chip: its cores, how many lines memory has, whose turn it is, what it is at
pub record State : Type 0 where
  pub cores : List (Core toy_isa)
  pub size : ℕ
  pub turn : ℕ
  pub phase : Phase

-- core k; one that is not there is off
abbrev pub core_of : List (Core toy_isa) → ℕ → Core toy_isa
core_of cs k = slice_index_or cs k (record { cpu = toy_isa.start 0; on = false })

-- the core whose turn it is, and the line of its pc
abbrev pub mine : State → Core toy_isa
mine h = core_of h.cores h.turn

abbrev pub line : Core toy_isa → ℕ
line x = x.cpu.pc / 8

-- a line that comes is the one that is waited for
abbrev pub received : Phase → List (ℕ × List ℕ) → Phase
received idle xs = idle
received waits [] = waits
received waits (x ∷ xs) = holds x.1
received (holds ws) xs = holds ws
received (dirty a ws) xs = dirty a ws

abbrev pub gives : List (ℕ × List ℕ) → Step State
gives xs h = (record { cores = h.cores; size = h.size; turn = h.turn; phase = received h.phase xs }, silent)

-- core k takes an interrupt, if it goes, its line is up, and it lets them
abbrev pub may : (ℕ → Bool) → ℕ → State → Bool
may up k h = (core_of h.cores k).on && (up k && (core_of h.cores k).cpu.ready)

abbrev pub entered : Core toy_isa → Core toy_isa
entered x = record { cpu = toy_isa.enters x.cpu; on = true }

abbrev pub attends : (ℕ → Bool) → ℕ → Step State
attends up k h =
    pick (may up k h) (
      record { cores = slice_set h.cores k (entered (core_of h.cores k)); size = h.size; turn = h.turn; phase = h.phase },
      record { asks = []; writes = []; says = []; did = interrupt k ∷ [] },
    )
    (h, silent)

-- the turn passes, and leaves its core as x and the chip at p
abbrev pub passes : Phase → Core toy_isa → State → State
passes p x h = record { cores = slice_set h.cores h.turn x; size = h.size; turn = following (length h.cores) h.turn; phase = p }

-- the instruction of the core whose turn it is, is over: ws is the line of its pc
abbrev pub finishes : List ℕ → Did Registers → Step State
finishes ws (goes c) h = (passes idle (record { cpu = c; on = true }) h, record { asks = []; writes = []; says = []; did = step h.turn ∷ [] })
finishes ws (stores a v c) h =
    (passes (dirty (a / 8) (slice_set ws (a % 8) v)) (record { cpu = c; on = true }) h, record { asks = []; writes = []; says = []; did = step h.turn ∷ [] })
finishes ws (says x c) h = (passes idle (record { cpu = c; on = true }) h, record { asks = []; writes = []; says = (h.turn, x) ∷ []; did = step h.turn ∷ [] })
finishes ws stops h = (passes idle (record { cpu = (mine h).cpu; on = false }) h, record { asks = []; writes = []; says = []; did = step h.turn ∷ [] })

-- the line of pc is asked for
abbrev pub requests : Step State
requests h = (record { cores = h.cores; size = h.size; turn = h.turn; phase = waits }, record { asks = line (mine h) ∷ []; writes = []; says = []; did = [] })

-- a core that is off has no turn
abbrev pub skips : Step State
skips h = (record { cores = h.cores; size = h.size; turn = following (length h.cores) h.turn; phase = idle }, silent)

-- what the chip does, by what it is at
abbrev pub acts_at : Phase → Step State
acts_at idle h = pick (mine h).on (pick (nat_lt (line (mine h)) h.size) (requests h) (finishes [] stops h)) (skips h)
acts_at waits h = (h, silent)
acts_at (holds ws) h = finishes ws (does (mine h).cpu (slice_index ws ((mine h).cpu.pc % 8))) h
acts_at (dirty a ws) h = (
  record { cores = h.cores; size = h.size; turn = h.turn; phase = idle },
  record { asks = []; writes = (a, ws) ∷ []; says = []; did = [] },
)

abbrev pub acts : Step State
acts h = acts_at h.phase h

-- a cycle: a line may come, cores may take interrupts, and then the core whose turn it is gets on
abbrev pub toy_cycle : State → List (ℕ × List ℕ) → (ℕ → Bool) → State × Out
toy_cycle h xs up = then (gives xs) (then (each (attends up) 4) acts) h

abbrev pub toy_chip : Chip
toy_chip = record { State = State; fresh = λ n size. record { cores = fresh_cores toy_isa 0 n; size = size; turn = 0; phase = idle }; cycle = toy_cycle }
