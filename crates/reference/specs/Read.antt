-- The machines and the lent memory, read as the machines that take turns; and what an event comes to.
-- Assumes nothing: these are definitions.
use Rattle.std.specs.Prelude.{◌≡◌, ℕ, ◌/◌, ◌<◌, min, true, false, cond, List, [], ◌∷◌, ◌++◌, map, length, take, slice_index_or, slice_set}
use Rattle.words.specs.Parts.{lines}
use Rattle.rv32.specs.Did.{Did, goes, stores, says, stops}
use Rattle.rv32.specs.Execute.{one, lets, start}
use Rattle.rv32.specs.declared.core_state.Core as registers
use Rattle.rv32.specs.declared.core_state.Effect.{Effect}
use Rattle.rv32.specs.declared.core_state.Effect.TheVariants.{Goes, Stores, Says, Stops}
use Rattle.cores.specs.Machines.{word, Event, step, interrupt, Core, Manual, core, event, events}
use Rattle.cores.specs.Rv32.{rv32}
use Rattle.reference.specs.declared.machines.Machine.{Machine}
use Rattle.reference.specs.declared.machines.Machines.{Machines}
use Rattle.reference.specs.declared.machines.Outcome.{Outcome}
use Rattle.reference.specs.declared.machines.Outcome.TheVariants.{Done, Said, Stopped, Off, NotLet}

-- one machine
abbrev pub core_of : Machine → Core rv32
core_of m = record { cpu = m.core; on = m.on }

-- machine k as it begins
abbrev pub new_machine : ℕ → Machine
new_machine k = record { core = start k; on = true }

-- how many machines are there
abbrev pub there : Machines → ℕ
there ms = min ms.count 4

-- the machines with the lines that the lent words have, after these words were said (core and word)
unfoldable pub manual_of : Machines → List ℕ → List (ℕ × ℕ) → Manual rv32
manual_of ms words said = record { cores = map core_of (take (there ms) ms.machines); memory = lines (length words / 8) words; said = said }

-- core k has stopped, or is not there; or it goes, and m is its machine
abbrev pub OffAt : Machines → ℕ → Type 0
OffAt ms k = (words : List ℕ) (said : List (ℕ × ℕ)) → (core rv32 (manual_of ms words said) k).on ≡ false

pub record OnAt (ms : Machines) (k : ℕ) (m : Machine) : Type 0 where
  pub present : k < there ms
  pub small : k < 4
  pub in_row : k < length ms.machines
  pub is : m ≡ slice_index_or ms.machines k m
  pub on : m.on ≡ true

-- what an instruction of core k comes to, by what it did
abbrev pub outcome_of : ℕ → Did registers.Core → Outcome
outcome_of k (goes c) = Done
outcome_of k (stores a x c) = Done
outcome_of k (says x c) = Said k x
outcome_of k stops = Stopped

-- what an event comes to
unfoldable pub outcome : Manual rv32 → Event → Outcome
outcome μ (step k) = cond (core rv32 μ k).on (outcome_of k (one (length μ.memory) (core rv32 μ k).cpu (word μ.memory))) Off
outcome μ (interrupt k) = cond (core rv32 μ k).on (cond (lets (core rv32 μ k).cpu) Done NotLet) Off

-- the words said in a row of outcomes
abbrev pub spoken : Outcome → List (ℕ × ℕ)
spoken Done = []
spoken (Said k x) = (k, x) ∷ []
spoken Stopped = []
spoken Off = []
spoken NotLet = []

unfoldable pub all_spoken : List Outcome → List (ℕ × ℕ)
all_spoken [] = []
all_spoken (o ∷ os) = spoken o ++ all_spoken os

-- what each of a row of events comes to
unfoldable pub outcomes : Manual rv32 → List Event → List Outcome
outcomes μ [] = []
outcomes μ (e ∷ es) = outcome μ e ∷ outcomes (event rv32 μ e) es

-- an event was done: what came of it, and the machines and the lent words after it
abbrev pub Performed : Event → Machines → List ℕ → Machines → List ℕ → Outcome → Type 0
Performed e ms words ms' words' o =
    (said : List (ℕ × ℕ)) → (o ≡ outcome (manual_of ms words said) e) × (manual_of ms' words' (said ++ spoken o) ≡ event rv32 (manual_of ms words said) e)

-- a row of events was done: what came of each, after what had come of others before
abbrev pub AllPerformed : List Event → Machines → List ℕ → List Outcome → Machines → List ℕ → List Outcome → Type 0
AllPerformed es ms words os ms' words' os' =
    (said : List (ℕ × ℕ)) → (os' ≡ os ++ outcomes (manual_of ms words said) es)
    × (manual_of ms' words' (said ++ all_spoken (outcomes (manual_of ms words said) es)) ≡ events rv32 (manual_of ms words said) es)

-- a machine, and the lent words, after an instruction of it
abbrev pub machine_after : Machine → Effect → Machine
machine_after m (Goes c) = record { core = c; on = true }
machine_after m (Stores a x c) = record { core = c; on = true }
machine_after m (Says x c) = record { core = c; on = true }
machine_after m Stops = record { core = m.core; on = false }

abbrev pub words_after : List ℕ → Effect → List ℕ
words_after words (Goes c) = words
words_after words (Stores a x c) = slice_set words a x
words_after words (Says x c) = words
words_after words Stops = words
