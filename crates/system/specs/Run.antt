-- Runs of the chip on the board by choices: which choices bytes make, and what holds after a run.
-- Assumes nothing: these are definitions.
use Rattle.std.specs.Prelude.{◌≡◌, ℕ, ◌+◌, ◌*◌, ◌≤◌, Bool, List, [], ◌∷◌, ◌++◌, map, length, drop, Ok, Err, Result}
use Rattle.cores.specs.Machines.{manual_after, said_by}
use Rattle.cores.specs.Board.{Choice, powered}
use Rattle.cores.specs.Lent.{Lent}
use Rattle.cores.specs.Promise.{Memory}
use Rattle.cores.specs.Rv32.{rv32}
use Rattle.image.specs.Choices.{Cycle, cycles_of, up}
use Rattle.image.specs.Memory.{words_of}
use Rattle.image.specs.declared.memory.Header.{Header}
use Rattle.image.specs.declared.refusal.Refusal.{Refusal}
use Rattle.board.specs.Layout.{memory_of, waiting_of}
use Rattle.system.specs.Cycle.{choice}
use Rattle.system.specs.Log.{Log, more}
use Rattle.system.specs.declared.run.Ended.{Ended}
use Rattle.system.specs.declared.run.Stopped.{Stopped}
use Rattle.system.specs.declared.run.Stopped.TheVariants.{Refused, Unheard}

-- the interrupt lines of the four cores that a byte raises
abbrev pub lines_up : ℕ → List Bool
lines_up byte = up byte 0 ∷ up byte 1 ∷ up byte 2 ∷ up byte 3 ∷ []

-- what a cycle of the bytes chooses
abbrev pub choice_of : Cycle → Choice
choice_of c = choice c.given (lines_up c.raised)

-- the choices that bytes make, a cycle each
unfoldable pub choices_in : List ℕ → List Choice
choices_in bytes = map choice_of (cycles_of bytes)

-- the memory that bytes bring: after nine bytes of front, the words of its lines
abbrev pub memory_in : Header → List ℕ → List (List ℕ)
memory_in h bytes = memory_of h.lines (words_of (drop 9 bytes))

-- what a call comes to: it runs to the end, or something brought is refused, or the listener refuses a cycle
abbrev pub Outcome : (Ended → Type 0) → (Refusal → Type 0) → Type 0 → Result Ended Stopped → Type 0
Outcome ran refused cut (Ok e) = ran e
Outcome ran refused cut (Err (Refused f)) = refused f
Outcome ran refused cut (Err Unheard) = cut

-- the same chip words, board words and words said, and nothing more heard
pub record Untouched (chips chips_then board board_then words words_then : List ℕ) (log log_then : Log) : Type 0 where
  pub chip_same : chips_then ≡ chips
  pub board_same : board_then ≡ board
  pub words_same : words_then ≡ words
  pub log_same : log_then ≡ log

-- something was accepted as header h, and then P holds of it
abbrev pub AcceptedAs : Result Header Refusal → (Header → Type 0) → Type 0
AcceptedAs r P = (h : Header) × ((r ≡ Ok h) × P h)

module _ (L : Lent) where
  -- the words are those of a chip and a board at power-on
  pub record PoweredOn (h : Header) (chips board : List ℕ) : Type 0 where
    pub some_core : 1 ≤ h.cores
    pub few_cores : h.cores ≤ 4
    pub state : L.state_of chips ≡ L.chip.fresh h.cores h.lines
    pub nobody : waiting_of h.lines board ≡ []
    pub proper : Memory (memory_of h.lines board)
    pub long : 8 * h.lines + 1024 ≤ length board

  -- what a listener has heard since its log was `start`: all words said and all events done on the board of a chip of n cores with memory m, after
  -- these choices
  abbrev pub Heard : ℕ → List (List ℕ) → List Choice → Log → Log → Type 0
  Heard n m cs start log = log ≡ more start (powered L.chip n m cs).1.said (powered L.chip n m cs).1.did

  -- the lent words are those of that chip and its board after these choices, and the listener has heard of them
  pub record Ran (n lines : ℕ) (m : List (List ℕ)) (cs : List Choice) (chips board : List ℕ) (start log : Log) : Type 0 where
    pub state : L.state_of chips ≡ (powered L.chip n m cs).0
    pub memory : memory_of lines board ≡ (powered L.chip n m cs).1.memory
    pub waiting : waiting_of lines board ≡ (powered L.chip n m cs).1.waiting
    pub heard : Heard n m cs start log

  -- the listener refused a cycle: it has heard of the cycles before that one, which are a first part of all
  pub record CutShort (n : ℕ) (m : List (List ℕ)) (cs : List Choice) (start log : Log) : Type 0 where
    pub before : List Choice
    pub rest : List Choice
    pub all : before ++ rest ≡ cs
    pub heard : Heard n m before start log

  -- THE MAIN PROMISE, of a call that runs: for a memory with n cores that was brought as bytes, and choices
  pub record Finished (h : Header) (memory choices : List ℕ) (e : Ended) (chips board : List ℕ) (start log : Log) : Type 0 where
    -- every cycle of the choices was done
    pub cycles : e.cycles ≡ length (choices_in choices)
    -- the lent words are those of the chip and its board after them, and the listener has heard all that was said and done, in its order
    pub ran : Ran h.cores h.lines (memory_in h memory) (choices_in choices) chips board start log
    -- each core has said what it says as one of the manual's machines that take turns at one memory, in the order of the events
    pub same : (k : ℕ) →
        said_by k (powered L.chip h.cores (memory_in h memory) (choices_in choices)).1.said
        ≡ said_by k (manual_after rv32 h.cores (memory_in h memory) (powered L.chip h.cores (memory_in h memory) (choices_in choices)).1.did).said
    -- whether every core has stopped
    pub stopped : e.stopped ≡ L.off (L.state_of chips)
