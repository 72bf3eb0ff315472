-- The board around a chip: memory, the lines that are waited for, and what the chip puts out, cycle by cycle.
-- Assumes nothing: these are definitions.
use Rattle.std.specs.Prelude.{ℕ, zero, suc, ◌-◌, Bool, false, ◌||◌, List, [], ◌∷◌, ◌++◌, length, ◌==◌, slice_index_or, slice_set}
use Rattle.cores.specs.Machines.{pick, Event}

-- what the outside decides in a cycle: which of the lines that wait are given now, by their places in the row; and whose interrupt lines are up
pub record Choice : Type 0 where
  pub given : List ℕ
  pub raised : ℕ → Bool

-- what a chip puts out in a cycle: lines it asks for, lines it writes (number and words), words its cores say (core and word), and what was
-- done of the manual's events, in their order
pub record Out : Type 0 where
  pub asks : List ℕ
  pub writes : List (ℕ × List ℕ)
  pub says : List (ℕ × ℕ)
  pub did : List Event

-- memory, the row of lines asked for and not yet given, all words said, and all events done, oldest first
pub record Board : Type 0 where
  pub memory : List (List ℕ)
  pub waiting : List ℕ
  pub said : List (ℕ × ℕ)
  pub did : List Event

-- a board at power-on
abbrev pub new_board : List (List ℕ) → Board
new_board m = record { memory = m; waiting = []; said = []; did = [] }

-- memory after the lines that are written, one after another; a line that is not there is not written
unfoldable pub with_lines : List (List ℕ) → List (ℕ × List ℕ) → List (List ℕ)
with_lines m [] = m
with_lines m (w ∷ ws) = with_lines (slice_set m w.0 w.1) ws

-- whether c is in a row
unfoldable pub among : ℕ → List ℕ → Bool
among c [] = false
among c (d ∷ ds) = c == d || among c ds

-- of the waiting lines, the first of which has place i: those whose places are among gs, with what memory has there now
unfoldable pub handed : List (List ℕ) → List ℕ → ℕ → List ℕ → List (ℕ × List ℕ)
handed m gs i [] = []
handed m gs i (a ∷ rest) = pick (among i gs) ((a, slice_index_or m a []) ∷ handed m gs (suc i) rest) (handed m gs (suc i) rest)

-- and those that go on waiting
unfoldable pub kept : List ℕ → ℕ → List ℕ → List ℕ
kept gs i [] = []
kept gs i (a ∷ rest) = pick (among i gs) (kept gs (suc i) rest) (a ∷ kept gs (suc i) rest)

-- the board after a cycle in which the outside chose c and the chip put out o
unfoldable pub board_after : Board → Choice → Out → Board
board_after b c o =
    record { memory = with_lines b.memory o.writes; waiting = kept c.given 0 b.waiting ++ o.asks; said = b.said ++ o.says; did = b.did ++ o.did }

-- a chip: its state between cycles; that of a new one, for so many cores and lines of memory; and what a cycle makes of it, given the lines
-- that come (number and words) and whose interrupt lines are up. It sees nothing else of the board
pub record Chip : Type 1 where
  pub State : Type 0
  pub fresh : ℕ → ℕ → State
  pub cycle : State → List (ℕ × List ℕ) → (ℕ → Bool) → State × Out

-- a board that gives each line after so many cycles. A row of lines that wait there has, beside each line, how many cycles after the next it comes.
-- The lines that come now, with what memory has there now
unfoldable pub due : List (List ℕ) → List (ℕ × ℕ) → List (ℕ × List ℕ)
due m [] = []
due m (w ∷ ws) = pick (w.1 == 0) ((w.0, slice_index_or m w.0 []) ∷ due m ws) (due m ws)

-- and those that go on waiting, a cycle less
unfoldable pub later : List (ℕ × ℕ) → List (ℕ × ℕ)
later [] = []
later (w ∷ ws) = pick (w.1 == 0) (later ws) ((w.0, w.1 - 1) ∷ later ws)

-- lines asked for now: line a comes late a cycles after the next
unfoldable pub asked : (ℕ → ℕ) → List ℕ → List (ℕ × ℕ)
asked late [] = []
asked late (a ∷ rest) = (a, late a) ∷ asked late rest

module _ (C : Chip) where
  -- a chip on a board, for a row of choices, a cycle each
  unfoldable pub cycles : C.State → Board → List Choice → C.State × Board
  cycles h b [] = (h, b)
  cycles h b (c ∷ cs) =
      let (g, o) = C.cycle h (handed b.memory c.given 0 b.waiting) c.raised in cycles g (board_after b c o) cs

  -- a chip of n cores from power-on, with a memory
  unfoldable pub powered : ℕ → List (List ℕ) → List Choice → C.State × Board
  powered n m cs = cycles (C.fresh n (length m)) (new_board m) cs

  -- a chip on a board that gives each line in a certain cycle, and whose interrupt lines go up and down as the outside likes
  pub record Steady : Type 0 where
    pub chip : C.State
    pub memory : List (List ℕ)
    pub waiting : List (ℕ × ℕ)
    pub said : List (ℕ × ℕ)
    pub did : List Event

  -- one cycle. up: whose interrupt lines are up; late: how many cycles after the next each line asked for now is given
  unfoldable pub steady_cycle : (ℕ → Bool) → (ℕ → ℕ) → Steady → Steady
  steady_cycle up late s =
      let (g, o) = C.cycle s.chip (due s.memory s.waiting) up in
      record { chip = g; memory = with_lines s.memory o.writes; waiting = later s.waiting ++ asked late o.asks; said = s.said ++ o.says; did = s.did ++ o.did }

  -- so many cycles, from cycle 0: up c and late c are those of cycle c
  unfoldable pub steady : (ℕ → ℕ → Bool) → (ℕ → ℕ → ℕ) → ℕ → Steady → Steady
  steady up late zero s = s
  steady up late (suc k) s = steady_cycle (up k) (late k) (steady up late k s)

  -- at power-on, with so many cores and a memory
  unfoldable pub steady_start : ℕ → List (List ℕ) → Steady
  steady_start cores m = record { chip = C.fresh cores (length m); memory = m; waiting = []; said = []; did = [] }
