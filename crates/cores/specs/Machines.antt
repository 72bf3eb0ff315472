-- Cores of any kind that take turns at one memory, as their manual says: what each event does to them, and what they say.
-- Assumes nothing: these are definitions.
use Rattle.std.specs.Prelude.{ℕ, zero, suc, ◌/◌, ◌%◌, Bool, true, false, cond, List, [], ◌∷◌, ◌++◌, length, ◌==◌, slice_index, slice_index_or, slice_set}
use Rattle.rv32.specs.Did.{Did, goes, stores, says, stops}

-- the first where the test is true, the second where it is false
abbrev pub pick : {A : Type 0} → Bool → A → A → A
pick = cond

-- memory is lines of eight words; `word m a` is its word number a
unfoldable pub word : List (List ℕ) → ℕ → ℕ
word m a = slice_index (slice_index_or m (a / 8) []) (a % 8)

-- memory with x as its word number a
unfoldable pub with_word : List (List ℕ) → ℕ → ℕ → List (List ℕ)
with_word m a x = slice_set m (a / 8) (slice_set (slice_index_or m (a / 8) []) (a % 8) x)

-- core k has done an instruction, or it has taken an interrupt before its next one
pub data Event : Type 0 where
  step : ℕ → Event
  interrupt : ℕ → Event

-- how many instructions core k has done in a row of events
unfoldable pub steps : ℕ → List Event → ℕ
steps k [] = 0
steps k (step j ∷ es) = pick (j == k) (suc (steps k es)) (steps k es)
steps k (interrupt j ∷ es) = steps k es

-- how many interrupts core k has taken in a row of events
unfoldable pub interrupts : ℕ → List Event → ℕ
interrupts k [] = 0
interrupts k (step j ∷ es) = interrupts k es
interrupts k (interrupt j ∷ es) = pick (j == k) (suc (interrupts k es)) (interrupts k es)

-- the words that core k has said, of all that were said (core and word)
unfoldable pub said_by : ℕ → List (ℕ × ℕ) → List ℕ
said_by k [] = []
said_by k (w ∷ ws) = pick (w.0 == k) (w.1 ∷ said_by k ws) (said_by k ws)

-- a kind of core, by its manual: its registers; those of core k when new; what one instruction does, given how many lines memory has,
-- the registers and memory's words; what taking an interrupt does to the registers; whether one may be taken
pub record Isa : Type 1 where
  pub Cpu : Type 0
  pub start : ℕ → Cpu
  pub one : ℕ → Cpu → (ℕ → ℕ) → Did Cpu
  pub enters : Cpu → Cpu
  pub lets : Cpu → Bool

module _ (I : Isa) where
  -- a core: its registers, and whether it still goes
  pub record Core : Type 0 where
    pub cpu : I.Cpu
    pub on : Bool

  -- the machines: their cores, the one memory, and what was said (core and word), oldest first
  pub record Manual : Type 0 where
    pub cores : List Core
    pub memory : List (List ℕ)
    pub said : List (ℕ × ℕ)

  -- core k; one that is not there is off
  unfoldable pub core : Manual → ℕ → Core
  core m k = slice_index_or m.cores k (record { cpu = I.start 0; on = false })

  -- the machines after an instruction of core k, by what it did
  unfoldable pub after : Manual → ℕ → Did I.Cpu → Manual
  after m k (goes c) = record { cores = slice_set m.cores k (record { cpu = c; on = true }); memory = m.memory; said = m.said }
  after m k (stores a x c) = record { cores = slice_set m.cores k (record { cpu = c; on = true }); memory = with_word m.memory a x; said = m.said }
  after m k (says x c) = record { cores = slice_set m.cores k (record { cpu = c; on = true }); memory = m.memory; said = m.said ++ (k, x) ∷ [] }
  after m k stops = record { cores = slice_set m.cores k (record { cpu = (core m k).cpu; on = false }); memory = m.memory; said = m.said }

  -- the machines after one event; an event of a core that is off does nothing
  unfoldable pub event : Manual → Event → Manual
  event m (step k) = pick (core m k).on (after m k (I.one (length m.memory) (core m k).cpu (word m.memory))) m
  event m (interrupt k) =
      pick (core m k).on (record { cores = slice_set m.cores k (record { cpu = I.enters (core m k).cpu; on = true }); memory = m.memory; said = m.said }) m

  -- the machines after a row of events, the first first
  unfoldable pub events : Manual → List Event → Manual
  events m [] = m
  events m (e ∷ es) = events (event m e) es

  -- n new cores, numbered from k
  unfoldable pub fresh_cores : ℕ → ℕ → List Core
  fresh_cores k zero = []
  fresh_cores k (suc n) = record { cpu = I.start k; on = true } ∷ fresh_cores (suc k) n

  -- n machines as they begin, with this memory
  unfoldable pub begins : ℕ → List (List ℕ) → Manual
  begins n mem = record { cores = fresh_cores 0 n; memory = mem; said = [] }

  -- n machines that began with this memory, after a row of events
  unfoldable pub manual_after : ℕ → List (List ℕ) → List Event → Manual
  manual_after n mem es = events (begins n mem) es
