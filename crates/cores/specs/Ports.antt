-- How the values that cross between a chip and the board are read: events, lines, words said, and all that a cycle puts out.
-- Assumes nothing: these are definitions.
use Rattle.std.specs.Prelude.{ℕ, ◌+◌, ◌*◌, cond, List, [], ◌∷◌, ◌++◌, Some, None, Option, ◌==◌, slice_index}
use Rattle.rv32.specs.Did.{Did, goes, stores, says, stops}
use Rattle.cores.specs.Machines.{step, interrupt}
use Rattle.cores.specs.Machines as machines
use Rattle.cores.specs.Board as board
use Rattle.cores.specs.declared.port.Event.{Event}
use Rattle.cores.specs.declared.port.Event.TheVariants.{Step, Interrupt}
use Rattle.cores.specs.declared.port.Line.{Line}
use Rattle.cores.specs.declared.port.Out.{Out}

abbrev pub event_of : Event → machines.Event
event_of (Step k) = step k
event_of (Interrupt k) = interrupt k

-- a line's number and words
abbrev pub line_of : Line → ℕ × List ℕ
line_of l = (l.number, l.words)

-- the places of a row that are not empty, each read by `of`
abbrev pub somes : {A B : Type 0} → (A → B) → List (Option A) → List B
somes of [] = []
somes of (None ∷ xs) = somes of xs
somes of (Some x ∷ xs) = of x ∷ somes of xs

-- the words said in a cycle: two lent words for each core, whether it has said one, and which
abbrev pub said_at : List ℕ → ℕ → List (ℕ × ℕ)
said_at words k = cond (slice_index words (2 * k) == 0) [] ((k, slice_index words (2 * k + 1)) ∷ [])

abbrev pub said_of : List ℕ → List (ℕ × ℕ)
said_of words = said_at words 0 ++ said_at words 1 ++ said_at words 2 ++ said_at words 3

-- what core k says in doing an instruction
abbrev pub spoken : {Cpu : Type 0} → ℕ → Did Cpu → List (ℕ × ℕ)
spoken k (goes d) = []
spoken k (stores y v d) = []
spoken k (says x d) = (k, x) ∷ []
spoken k stops = []

-- all that a cycle puts out
abbrev pub out_of : Out → List ℕ → board.Out
out_of o words = record { asks = somes (λ a. a) (o.asks ∷ []); writes = somes line_of o.writes; says = said_of words; did = somes event_of o.did }
