-- What a listener has heard.
-- Assumes nothing: these are definitions.
use Rattle.std.specs.Prelude.{ℕ, List, ◌++◌}
use Rattle.cores.specs.Machines.{Event}

-- words with their cores, and events, oldest first
pub record Log : Type 0 where
  pub said : List (ℕ × ℕ)
  pub did : List Event

-- a log with more words and events at its end
abbrev pub more : Log → List (ℕ × ℕ) → List Event → Log
more l said did = record { said = l.said ++ said; did = l.did ++ did }
