-- Runs of the chip on the steady board, where each line comes so many cycles after the next and no interrupt line is up.
-- Assumes nothing: these are definitions.
use Rattle.std.specs.Prelude.{◌≡◌, ℕ, ◌+◌, ◌*◌, ◌<◌, ◌≤◌, Bool, true, false, cond, ◌⊎◌, List, length, None}
use Rattle.cores.specs.Machines.{manual_after, said_by}
use Rattle.cores.specs.Board.{Steady, due, later, steady, steady_start}
use Rattle.cores.specs.Lent.{Lent}
use Rattle.cores.specs.Ports.{out_of}
use Rattle.cores.specs.Promise.{Memory}
use Rattle.cores.specs.Rv32.{rv32}
use Rattle.cores.specs.declared.port.Out.{Out}
use Rattle.board.specs.Cycle.{FollowsSteady}
use Rattle.board.specs.Faults.{unfit, unsound}
use Rattle.board.specs.Layout.{memory_of, timed_of}
use Rattle.system.specs.Log.{Log, more}
use Rattle.system.specs.declared.run.Ended.{Ended}

-- no interrupt line is up
abbrev pub none_up : ℕ → Bool
none_up k = false

module _ (L : Lent) where
  -- the chip and the steady board after k cycles: n cores, memory m, each line late cycles after the next
  abbrev pub after_steady : ℕ → List (List ℕ) → ℕ → ℕ → Steady L.chip
  after_steady n m late k = steady L.chip (λ _ _. false) (λ _ _. late) k (steady_start L.chip n m)

  -- the words after are those of the chip and of the steady board one cycle after the words before
  pub record NextSteady (n late : ℕ) (chips board : List ℕ) (o : Out) (words chips_then board_then : List ℕ) : Type 0 where
    pub chip_next : (L.state_of chips_then, out_of o words) ≡ L.chip.cycle (L.state_of chips) (due (memory_of n board) (timed_of n board)) none_up
    pub board_next : FollowsSteady n board late o board_then

  -- the board refuses neither the lines that are due nor what the chip puts out
  pub record FittingSteady (n : ℕ) (chips board : List ℕ) : Type 0 where
    pub sound : unsound n board ≡ None
    pub fits : (o : Out) (words : List ℕ) → out_of o words ≡ (L.chip.cycle (L.state_of chips) (due (memory_of n board) (timed_of n board)) none_up).1 →
        unfit n board o (length (later (timed_of n board))) ≡ None

  -- what a listener has heard since its log was `start`: all that was said and done in k cycles
  abbrev pub HeardSteady : ℕ → List (List ℕ) → ℕ → ℕ → Log → Log → Type 0
  HeardSteady n m late k start log = log ≡ more start (after_steady n m late k).said (after_steady n m late k).did

  -- the lent words are those of the chip and the board after k cycles, and the listener has heard of them
  pub record RanSteady (n lines : ℕ) (m : List (List ℕ)) (late k : ℕ) (chips board : List ℕ) (start log : Log) : Type 0 where
    pub state : L.state_of chips ≡ (after_steady n m late k).chip
    pub memory : memory_of lines board ≡ (after_steady n m late k).memory
    pub waiting : timed_of lines board ≡ (after_steady n m late k).waiting
    pub heard : HeardSteady n m late k start log

  -- the listener refused a cycle: it has heard of the cycles before that one
  abbrev pub CutSteady : ℕ → List (List ℕ) → ℕ → Log → Log → Type 0
  CutSteady n m late start log = (k : ℕ) × HeardSteady n m late k start log

  -- a run comes to its end after k cycles: so many were asked for, or every core has stopped, and not before
  pub record Enough (n : ℕ) (m : List (List ℕ)) (late cycles k : ℕ) : Type 0 where
    pub asked : k ≤ cycles
    pub before : (j : ℕ) → j < k → L.off (after_steady n m late j).chip ≡ false
    pub over : (k ≡ cycles) ⊎ (L.off (after_steady n m late k).chip ≡ true)

  -- what is known where a run comes to its end after k cycles from power-on
  pub record DoneSteady (n lines : ℕ) (m : List (List ℕ)) (late cycles k : ℕ) (chips board : List ℕ) (start log : Log) : Type 0 where
    pub enough : Enough n m late cycles k
    -- the lent words are those of the chip and the board after them, and the listener has heard all that was said and done
    pub ran : RanSteady n lines m late k chips board start log

  -- the words are those of a chip and a board after some cycles from power-on, and the listener has heard of them
  pub record UnderWay (n lines late : ℕ) (chips board : List ℕ) (log : Log) : Type 0 where
    pub memory_on : List (List ℕ)
    pub cycles : ℕ
    pub start : Log
    pub some_core : 1 ≤ n
    pub few_cores : n ≤ 4
    pub proper : Memory memory_on
    pub long : 8 * lines + 1024 ≤ length board
    pub ran : RanSteady n lines memory_on late cycles chips board start log

  -- something holds for every memory at power-on and every number k of cycles after which the words are these, whatever the listener had heard at power-on
  abbrev pub FromThere : (n lines late : ℕ) (chips board : List ℕ) (log : Log) → (List (List ℕ) → ℕ → Log → Type 0) → Type 0
  FromThere n lines late chips board log P = (m : List (List ℕ)) (k : ℕ) (start : Log) → RanSteady n lines m late k chips board start log → P m k start

  -- each core has said in k cycles what it says as one of the manual's machines that take turns at one memory, in the order of the events
  abbrev pub SameSteady : ℕ → List (List ℕ) → ℕ → ℕ → Type 0
  SameSteady n m late k = (j : ℕ) → said_by j (after_steady n m late k).said ≡ said_by j (manual_after rv32 n m (after_steady n m late k).did).said

  -- the chip goes on for `drain` cycles once every core has stopped: by then all that was newer in it is in memory
  module _ (drain : ℕ) where
    -- every core had stopped after k cycles: in those that followed nothing was said or done, and memory is that of the manual's machines after all events
    pub record Clean (n lines : ℕ) (m : List (List ℕ)) (late k : ℕ) (board : List ℕ) : Type 0 where
      pub said : (after_steady n m late (k + drain)).said ≡ (after_steady n m late k).said
      pub did : (after_steady n m late (k + drain)).did ≡ (after_steady n m late k).did
      pub memory : memory_of lines board ≡ (manual_after rv32 n m (after_steady n m late k).did).memory

    -- how many cycles were done in all, where the run came to its end after k: more of them if every core had stopped
    abbrev pub in_all : Bool → ℕ → ℕ
    in_all stopped k = cond stopped (k + drain) k

    -- what is known of a run with n cores and memory m
    pub record FinishedSteady (n lines : ℕ) (m : List (List ℕ)) (late cycles : ℕ) (e : Ended) (chips board : List ℕ) (start log : Log) : Type 0 where
      -- so many cycles were asked for, or every core had stopped after them, and not before
      pub enough : Enough n m late cycles e.cycles
      -- whether every core had stopped
      pub stopped : e.stopped ≡ L.off (after_steady n m late e.cycles).chip
      -- the lent words are those of the chip and the board after them, and `drain` more if every core had stopped; the listener has heard all that was
      -- said and done
      pub ran : RanSteady n lines m late (in_all e.stopped e.cycles) chips board start log
      -- the main promise
      pub same : SameSteady n m late (in_all e.stopped e.cycles)
      -- if every core had stopped, nothing was said or done after that, and memory is the machines'
      pub clean : e.stopped ≡ true → Clean n lines m late e.cycles board
