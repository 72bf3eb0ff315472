-- A chip whose state lies in lent words.
-- Assumes nothing: these are definitions.
use Rattle.std.specs.Prelude.{ℕ, Bool, List}
use Rattle.cores.specs.Board.{Chip}

-- the chip; the state that words are; and whether no core goes in a state
pub record Lent : Type 1 where
  pub chip : Chip
  pub state_of : List ℕ → chip.State
  pub off : chip.State → Bool
