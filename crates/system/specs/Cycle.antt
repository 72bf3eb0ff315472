-- A cycle of the chip on the board, both in lent words; and when neither refuses it.
-- Assumes nothing: these are definitions.
use Rattle.std.specs.Prelude.{◌≡◌, ℕ, Bool, false, List, [], ◌++◌, length, None, slice_index_or}
use Rattle.cores.specs.Machines.{Event}
use Rattle.cores.specs.Board.{Board, Choice, board_after, kept}
use Rattle.cores.specs.Lent.{Lent}
use Rattle.cores.specs.Owed.{cycled, next_board}
use Rattle.cores.specs.Ports.{event_of, out_of, said_of, somes}
use Rattle.cores.specs.declared.port.Out.{Out}
use Rattle.board.specs.Faults.{unfit, unsound}
use Rattle.board.specs.Layout.{board_of, waiting_of}

-- the interrupt lines of four cores; a core that is not there has none up
abbrev pub raised_of : List Bool → ℕ → Bool
raised_of up k = slice_index_or up k false

-- what the outside chooses: the places given, and the interrupt lines
abbrev pub choice : List ℕ → List Bool → Choice
choice places up = record { given = places; raised = raised_of up }

module _ (L : Lent) where
  -- one cycle of a chip on a board: the chip and the board after it
  abbrev pub next : L.chip.State → Board → Choice → L.chip.State × Board
  next h b c = ((cycled L.chip h b c).0, next_board L.chip h b c)

  -- the words after read as the chip and the board one cycle after the words before, whatever was said and done till then; what is said and
  -- done in the cycle comes after it
  abbrev pub Next : ℕ → List ℕ → List ℕ → Choice → Out → List ℕ → List ℕ → List ℕ → Type 0
  Next n chips board c o words chips_after board_after =
      (said : List (ℕ × ℕ)) (did : List Event) →
      (L.state_of chips_after, board_of n board_after (said ++ said_of words) (did ++ somes event_of o.did)) ≡ next (L.state_of chips) (board_of n board said did) c

  -- what the chip puts out in that cycle
  abbrev pub PutsOut : ℕ → List ℕ → List ℕ → Choice → Out → List ℕ → Type 0
  PutsOut n chips board c o words = out_of o words ≡ (cycled L.chip (L.state_of chips) (board_of n board [] []) c).1

  -- the board refuses neither the lines given nor what the chip puts out
  pub record Fitting (n : ℕ) (chips board : List ℕ) (c : Choice) : Type 0 where
    pub sound : unsound n board ≡ None
    pub fits : (o : Out) (words : List ℕ) → PutsOut n chips board c o words → unfit n board o (length (kept c.given 0 (waiting_of n board))) ≡ None
