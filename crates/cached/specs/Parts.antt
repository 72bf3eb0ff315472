-- What holds of the parts of the chip in every run: of owners and readers, of copies and memory, of places for lines, of messages, and of the turn.
-- Assumes nothing: these are definitions.
use Rattle.std.specs.Prelude.{◌≡◌, ℕ, ◌+◌, ◌/◌, ◌<◌, ◌≤◌, Bool, true, false, ◌⊎◌, List, [], ◌∷◌, map, length, slice_index_or}
use Rattle.cores.specs.Machines.{steps, Manual, core, manual_after}
use Rattle.cores.specs.Board.{Choice, Out, Board, handed, kept, powered}
use Rattle.cores.specs.Promise.{Memory, once}
use Rattle.cores.specs.Kept.{Below}
use Rattle.cores.specs.Owed.{following}
use Rattle.cores.specs.Rv32.{rv32}
use Rattle.cached.specs.Rv.{rv}
use Rattle.cache.specs.Slots.{Slot, empty, has, owns, dirties, words}
use Rattle.link.specs.Messages.{quiet, grant, is_quiet, ask, is_unasked, all_unasked}
use Rattle.directory.specs.Directory.{tag, wants, Stage, fetches, busy}
use Rattle.cached.specs.Soc.{State, deliver, take_all, answer_all, start_next, cycle, chip}
use Rattle.cached.specs.Coherent.{view, Home}
use Rattle.cached.specs.Rank.{number}
use Rattle.cached.specs.Range.{StaysInRange}

-- P holds of chip, board and machines after every run
abbrev pub Always : (State rv → Board → Manual rv32 → Type 0) → Type 0
Always P =
    (n : ℕ) (m : List (List ℕ)) (cs : List Choice) → 1 ≤ n → n ≤ 4 → Memory m →
    P (powered (chip rv) n m cs).0 (powered (chip rv) n m cs).1 (manual_after rv32 n m (powered (chip rv) n m cs).1.did)

-- OWNERS. `view` is what a place has, or what a grant on its way brings to it
pub record Owners (c : State rv) (b : Board) (μ : Manual rv32) : Type 0 where
  -- a line that a cache may write is in no other place of any cache
  pub single : (p q a : ℕ) → owns (c.lines.slot p) a ≡ true → has (c.lines.slot q) a ≡ true → p ≡ q
  -- nor on its way to another
  pub promised : (p q a : ℕ) → owns (view c.lines p) a ≡ true → has (view c.lines q) a ≡ true → p ≡ q
  -- a core has a line at one place at most
  pub once : (p q a : ℕ) → p / 64 ≡ q / 64 → has (view c.lines p) a ≡ true → has (view c.lines q) a ≡ true → p ≡ q
  -- the directory knows what each place has or is about to have
  pub mirror : (p : ℕ) → c.lines.entry p ≡ tag (view c.lines p)

-- VALUES
pub record Values (c : State rv) (b : Board) (μ : Manual rv32) : Type 0 where
  -- what a cache has, to read or to write, is the line of the machines' memory
  pub cached : (p a : ℕ) → has (c.lines.slot p) a ≡ true → words (c.lines.slot p) ≡ slice_index_or μ.memory a []
  -- and so is what is on its way
  pub coming : (p a : ℕ) → has (view c.lines p) a ≡ true → words (view c.lines p) ≡ slice_index_or μ.memory a []
  -- where no copy is dirty memory outside has it too
  pub outside : (a : ℕ) → ((p : ℕ) → dirties (view c.lines p) a ≡ false) → slice_index_or b.memory a [] ≡ slice_index_or μ.memory a []
  -- only what may be written is dirty
  pub dirty : (p a : ℕ) → dirties (view c.lines p) a ≡ true → owns (view c.lines p) a ≡ true

-- PLACES
pub record Places (c : State rv) (b : Board) (μ : Manual rv32) : Type 0 where
  -- a line that is asked for has a place of the core that asks, one of its two for that line, which is empty; and nothing is on its way to that core
  pub asked : (k a p : ℕ) (o : Bool) (s : Stage) → c.lines.request k ≡ wants a o p s → (p / 64 ≡ k) × Home c.size p a × (c.lines.slot p ≡ empty) × (c.lines.coming k ≡ quiet)
  -- and so has a line that is granted
  pub granted : (k p : ℕ) (x : Slot) → c.lines.coming k ≡ grant p x → (p / 64 ≡ k) × (c.lines.slot p ≡ empty)

-- FETCHED LINES
pub record Fetched (c : State rv) (b : Board) (μ : Manual rv32) : Type 0 where
  -- a line on its way from memory is in no cache, and on its way to none
  pub nowhere : (k p a : ℕ) → fetches (c.lines.request k) a ≡ true → has (view c.lines p) a ≡ false
  -- one request at most for a line probes or fetches
  pub alone : (i j a : ℕ) → busy (c.lines.request i) a ≡ true → busy (c.lines.request j) a ≡ true → i ≡ j
  -- the lines that wait outside are just those that are fetched
  pub waiting : (a : ℕ) →
      once a b.waiting ≡ number (fetches (c.lines.request 0) a) + number (fetches (c.lines.request 1) a) + number (fetches (c.lines.request 2) a) + number (fetches (c.lines.request 3) a)

-- the lines that come in a cycle in which the outside gives the places gs of the row
abbrev pub comes : Board → List ℕ → List (ℕ × List ℕ)
comes b gs = handed b.memory gs 0 b.waiting

-- the chip within that cycle once grants are taken, and once probes are answered
abbrev pub with_grants : State rv → Board → List ℕ → State rv
with_grants c b gs = (take_all rv (deliver rv (comes b gs) c).0).0

abbrev pub with_answers : State rv → Board → List ℕ → State rv
with_answers c b gs = (answer_all rv (with_grants c b gs)).0

-- MESSAGES. The row from the directory to a core has room for one grant and one probe, and they leave it in the order in which they came
pub record Rows (c : State rv) (b : Board) (μ : Manual rv32) : Type 0 where
  -- a core that has asked for a line has no grant in its row: there is room for the one that it gets
  pub room : (k a p : ℕ) (o : Bool) (s : Stage) → c.lines.request k ≡ wants a o p s → c.lines.coming k ≡ quiet
  -- a grant that stands in a row is taken in the next cycle
  pub taken : (k : ℕ) (gs : List ℕ) → k < 4 → is_quiet (c.lines.coming k) ≡ false → (with_grants c b gs).lines.coming k ≡ quiet
  -- and so is a probe that stands there alone
  pub answered : (k : ℕ) (gs : List ℕ) → is_unasked (c.hints.probe k) ≡ false → is_quiet (c.lines.coming k) ≡ true → is_unasked ((with_answers c b gs).hints.probe k) ≡ true
  -- after that no row has both, so that a row which has both got its probe last
  pub order : (k : ℕ) (gs : List ℕ) → (is_unasked ((with_answers c b gs).hints.probe k) ≡ true) ⊎ (is_quiet ((with_answers c b gs).lines.coming k) ≡ true)
  -- a probe to core k is for a line that it has or is about to have
  pub meant : (k p a : ℕ) (o : Bool) → c.hints.probe k ≡ ask p a o → (p / 64 ≡ k) × (has (view c.lines p) a ≡ true)

-- THE TURN
pub record Turn (c : State rv) (b : Board) (μ : Manual rv32) : Type 0 where
  -- it is the turn of a core that is there
  pub there : c.hints.turn < length μ.cores
  -- in a cycle it stays, or passes to the next core: from one that has stopped, or that has done an instruction in this cycle
  pub passes : (gs : List ℕ) (up : ℕ → Bool) →
      ((cycle rv c (comes b gs) up).0.hints.turn ≡ c.hints.turn)
      ⊎ (((cycle rv c (comes b gs) up).0.hints.turn ≡ following (length μ.cores) c.hints.turn)
      × (((core rv32 μ c.hints.turn).on ≡ false) ⊎ (1 ≤ steps c.hints.turn (cycle rv c (comes b gs) up).1.did)))
  -- no probe is sent to the core whose turn it is, so that nobody takes a line from it before it has done its instruction
  pub spared : (gs : List ℕ) (up : ℕ → Bool) → is_unasked (c.hints.probe c.hints.turn) ≡ true → is_unasked ((cycle rv c (comes b gs) up).0.hints.probe c.hints.turn) ≡ true

-- probes are sent only where none is on its way: from any state whatever the start of a request leaves the probes, or there were none
abbrev pub RoomForProbes : Type 0
RoomForProbes = (c : State rv) → ((start_next rv c).0.hints.probe ≡ c.hints.probe) ⊎ (all_unasked c.hints.probe ≡ true)

-- LINES OF MEMORY. What the board is asked for and told to write, in a cycle too
pub record Inside (c : State rv) (b : Board) (μ : Manual rv32) : Type 0 where
  -- the lines that wait are memory's
  pub waiting : Below (length b.memory) b.waiting
  -- and so are those that the next cycle asks for, and those that it writes
  pub asks : (gs : List ℕ) (up : ℕ → Bool) → Below (length b.memory) (cycle rv c (comes b gs) up).1.asks
  pub writes : (gs : List ℕ) (up : ℕ → Bool) → Below (length b.memory) (map (λ w. w.0) (cycle rv c (comes b gs) up).1.writes)
  -- and few wait then
  pub room : (gs : List ℕ) (up : ℕ → Bool) → length (kept gs 0 b.waiting) + length (cycle rv c (comes b gs) up).1.asks ≤ 16

-- what a cycle puts out at most, so that it has room in what crosses between chip and board
pub record FewOut (o : Out) : Type 0 where
  pub asks : length o.asks ≤ 1
  pub writes : length o.writes ≤ 4
  pub says : length o.says ≤ 4
  pub did : length o.did ≤ 4

-- from any state whatever, with any lines and interrupt lines
abbrev pub PutsOutLittle : Type 0
PutsOutLittle = (c : State rv) (xs : List (ℕ × List ℕ)) (up : ℕ → Bool) → FewOut (cycle rv c xs up).1

-- all of them
pub record AllParts : Type 0 where
  pub owners : Always Owners
  pub values : Always Values
  pub places : Always Places
  pub fetched : Always Fetched
  pub rows : Always Rows
  pub turn : Always Turn
  pub inside : Always Inside
  pub room : RoomForProbes
  pub little : PutsOutLittle
  pub range : StaysInRange
