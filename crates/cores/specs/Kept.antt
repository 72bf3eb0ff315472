-- What a chip keeps in every run besides its promises, so that a board never refuses what it puts out, and what is in memory once all cores have stopped.
-- Assumes nothing: these are definitions.
use Rattle.std.specs.Prelude.{◌≡◌, ℕ, ◌+◌, ◌<◌, ◌≤◌, Bool, true, List, [], ◌∷◌, ◌++◌, map, length}
use Rattle.cores.specs.Machines.{manual_after}
use Rattle.cores.specs.Board.{Board, Chip, Choice, kept, powered}
use Rattle.cores.specs.Owed.{cycled}
use Rattle.cores.specs.Promise.{Memory}
use Rattle.cores.specs.Rv32.{rv32}

-- each number of a row is below n
abbrev pub Below : ℕ → List ℕ → Type 0
Below n [] = Unit {0}
Below n (a ∷ rest) = (a < n) × Below n rest

module _ (C : Chip) where
  -- the lines that wait are memory's, and so are those that the next cycle asks for and those that it writes; and there is room in the row for those
  -- that it asks for
  pub record Inside (h : C.State) (b : Board) : Type 0 where
    pub waiting : Below (length b.memory) b.waiting
    pub asks : (c : Choice) → Below (length b.memory) (cycled C h b c).1.asks
    pub writes : (c : Choice) → Below (length b.memory) (map (λ w. w.0) (cycled C h b c).1.writes)
    pub room : (c : Choice) → length (kept c.given 0 b.waiting) + length (cycled C h b c).1.asks ≤ 16

  -- in every run
  abbrev pub AlwaysInside : Type 0
  AlwaysInside = (n : ℕ) (m : List (List ℕ)) (cs : List Choice) → 1 ≤ n → n ≤ 4 → Memory m → Inside (powered C n m cs).0 (powered C n m cs).1

  -- what follows the choices cs is of no account but for memory, which becomes that of the manual's machines
  pub record Settles (n : ℕ) (m : List (List ℕ)) (cs ds : List Choice) : Type 0 where
    pub said : (powered C n m (cs ++ ds)).1.said ≡ (powered C n m cs).1.said
    pub did : (powered C n m (cs ++ ds)).1.did ≡ (powered C n m cs).1.did
    pub memory : (powered C n m (cs ++ ds)).1.memory ≡ (manual_after rv32 n m (powered C n m cs).1.did).memory

  -- once every core has stopped, so many cycles settle memory
  abbrev pub Drained : (C.State → Bool) → ℕ → Type 0
  Drained off cycles =
      (n : ℕ) (m : List (List ℕ)) (cs ds : List Choice) → 1 ≤ n → n ≤ 4 → Memory m → off (powered C n m cs).0 ≡ true → length ds ≡ cycles → Settles n m cs ds
