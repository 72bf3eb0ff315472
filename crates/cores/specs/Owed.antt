-- What a chip owes, so that all its promises follow: an invariant that each cycle keeps, and what a cycle does wherever it holds.
-- Assumes nothing: these are definitions.
use Rattle.std.specs.Prelude.{◌≡◌, ℕ, suc, ◌+◌, ◌-◌, ◌*◌, ◌<◌, ◌≤◌, Bool, true, false, ◌⊎◌, List, [], ◌∷◌, length, ◌==◌}
use Rattle.cores.specs.Machines.{pick, Event, step, interrupt, steps, interrupts, said_by, Isa, Manual, core, event, events, begins}
use Rattle.cores.specs.Board.{Choice, Out, Board, new_board, handed, board_after, Chip, due, Steady, steady_cycle}
use Rattle.cores.specs.Promise.{Memory, once}

-- each interrupt of a row of events stands where the manual lets it, and its core goes
abbrev pub Allowed : (I : Isa) → Manual I → List Event → Type 0
Allowed I μ [] = Unit {0}
Allowed I μ (step k ∷ es) = Allowed I (event I μ (step k)) es
Allowed I μ (interrupt k ∷ es) = ((I.lets (core I μ k).cpu ≡ true) × ((core I μ k).on ≡ true)) × Allowed I (event I μ (interrupt k)) es

-- whose turn is next, of n
abbrev pub following : ℕ → ℕ → ℕ
following n t = pick (suc t == n) 0 (suc t)

-- a row of lines that wait, each with how many cycles after the next it comes: just the lines
unfoldable pub lines : List (ℕ × ℕ) → List ℕ
lines [] = []
lines (w ∷ ws) = w.0 ∷ lines ws

-- each line of the row comes l cycles after the next at the latest
abbrev pub Timely : ℕ → List (ℕ × ℕ) → Type 0
Timely l [] = Unit {0}
Timely l (w ∷ ws) = (w.1 ≤ l) × Timely l ws

module _ (C : Chip) where
  -- one cycle of a chip on a board
  abbrev pub cycled : C.State → Board → Choice → C.State × Out
  cycled h b c = C.cycle h (handed b.memory c.given 0 b.waiting) c.raised

  -- the board after it
  abbrev pub next_board : C.State → Board → Choice → Board
  next_board h b c = board_after b c (cycled h b c).1

  -- a steady board as a board
  abbrev pub board_of : Steady C → Board
  board_of s = record { memory = s.memory; waiting = lines s.waiting; said = s.said; did = s.did }

  -- what is done in the next cycle of a steady board
  abbrev pub steady_did : (ℕ → Bool) → Steady C → List Event
  steady_did up s = (C.cycle s.chip (due s.memory s.waiting) up).1.did

module _ (I : Isa) (C : Chip) where
  -- something between a chip, the board around it, and the manual's machines after the events so far
  abbrev pub Relation : Type 1
  Relation = C.State → Board → Manual I → Type 0

  -- Inv is an invariant
  pub record Kept (Inv : Relation) : Type 0 where
    -- it holds at power-on
    pub starts : (n : ℕ) (m : List (List ℕ)) → 1 ≤ n → n ≤ 4 → Memory m → Inv (C.fresh n (length m)) (new_board m) (begins I n m)
    -- a cycle keeps it, whatever the outside chooses, where the machines do the events of the cycle
    pub keeps : (h : C.State) (b : Board) (μ : Manual I) (c : Choice) → Inv h b μ →
        Inv (cycled C h b c).0 (next_board C h b c) (events I μ (cycled C h b c).1.did)

  -- wherever Inv holds, a cycle does what the manual allows
  pub record Faithful (Inv : Relation) : Type 0 where
    -- each core has said what its machine says
    pub same : (h : C.State) (b : Board) (μ : Manual I) (k : ℕ) → Inv h b μ → said_by k b.said ≡ said_by k μ.said
    -- a core does at most one instruction in a cycle
    pub single : (h : C.State) (b : Board) (μ : Manual I) (c : Choice) (k : ℕ) → Inv h b μ → steps k (cycled C h b c).1.did ≤ 1
    -- interrupts are taken where the manual lets them
    pub allowed : (h : C.State) (b : Board) (μ : Manual I) (c : Choice) → Inv h b μ → Allowed I μ (cycled C h b c).1.did
    -- a core whose line is down takes none
    pub lowered : (h : C.State) (b : Board) (μ : Manual I) (c : Choice) (k : ℕ) → Inv h b μ → c.raised k ≡ false → interrupts k (cycled C h b c).1.did ≡ 0
    -- a core that goes, whose line is up and whom the manual lets, takes one in this very cycle
    pub takes : (h : C.State) (b : Board) (μ : Manual I) (c : Choice) (k : ℕ) → Inv h b μ → k < length μ.cores →
        c.raised k ≡ true → I.lets (core I μ k).cpu ≡ true → (core I μ k).on ≡ true → 1 ≤ interrupts k (cycled C h b c).1.did

  -- wherever Inv holds, few lines wait, and memory is one of words
  pub record Bounded (Inv : Relation) : Type 0 where
    -- at most sixteen lines wait
    pub few : (h : C.State) (b : Board) (μ : Manual I) → Inv h b μ → length b.waiting ≤ 16
    -- none of them twice
    pub apart : (h : C.State) (b : Board) (μ : Manual I) (a : ℕ) → Inv h b μ → once a b.waiting ≤ 1
    -- none outside the memory
    pub inside : (h : C.State) (b : Board) (μ : Manual I) (a : ℕ) → Inv h b μ → length b.memory ≤ a → once a b.waiting ≡ 0
    -- lines have eight words of 32 bits
    pub proper : (h : C.State) (b : Board) (μ : Manual I) → Inv h b μ → Memory b.memory

  -- with all cores off, what is left to write falls in each cycle, and when nothing is left memory outside is the manual's
  pub record Drains (Inv : Relation) : Type 0 where
    -- how much is left to write
    pub left : C.State → ℕ
    -- at most 8192
    pub little : (h : C.State) (b : Board) (μ : Manual I) → Inv h b μ → left h ≤ 8192
    -- with all cores off a cycle leaves less
    pub falls : (h : C.State) (b : Board) (μ : Manual I) (c : Choice) → Inv h b μ → ((k : ℕ) → (core I μ k).on ≡ false) → left (cycled C h b c).0 ≤ left h - 1
    -- with all cores off and nothing left, memory outside is the manual's
    pub clean : (h : C.State) (b : Board) (μ : Manual I) → Inv h b μ → ((k : ℕ) → (core I μ k).on ≡ false) → left h ≡ 0 → b.memory ≡ μ.memory

  -- a chip on a steady board, where Inv holds and each line comes within l cycles after the next
  pub record Running (Inv : Relation) (l : ℕ) (s : Steady C) (μ : Manual I) : Type 0 where
    pub holds : Inv s.chip (board_of C s) μ
    pub timely : Timely l s.waiting

  -- the cores have turns, and each turn ends: it has a rank below 64 (l + 1) that falls until the turn passes
  pub record ByTurns (Inv : Relation) : Type 0 where
    -- whose turn it is
    pub turn : C.State → ℕ
    -- how many cycles the turn still lasts, at most, on a board that gives each line within l cycles after the next
    pub rank : ℕ → Steady C → ℕ
    -- it is the turn of a core that is there
    pub there : (l : ℕ) (s : Steady C) (μ : Manual I) → Running Inv l s μ → turn s.chip < length μ.cores
    -- a turn is short
    pub short : (l : ℕ) (s : Steady C) (μ : Manual I) → Running Inv l s μ → rank l s < 64 * (l + 1)
    -- in a cycle the turn passes to the next core, from one that is off or has done an instruction in it; or it stays and its rank falls
    pub moves : (l : ℕ) (s : Steady C) (μ : Manual I) (up : ℕ → Bool) (late : ℕ → ℕ) → Running Inv l s μ → ((a : ℕ) → late a ≤ l) →
        ((turn (steady_cycle C up late s).chip ≡ following (length μ.cores) (turn s.chip))
        × (((core I μ (turn s.chip)).on ≡ false) ⊎ (1 ≤ steps (turn s.chip) (steady_did C up s))))
        ⊎ ((turn (steady_cycle C up late s).chip ≡ turn s.chip) × (rank l (steady_cycle C up late s) < rank l s))

  -- all that a chip owes
  pub record Owed : Type 1 where
    pub Inv : Relation
    pub kept : Kept Inv
    pub faithful : Faithful Inv
    pub bounded : Bounded Inv
    pub drains : Drains Inv
    pub turns : ByTurns Inv
