-- A function with another value at one place.
-- Assumes nothing: these are definitions.
use Rattle.std.specs.Prelude.{ℕ, ◌==◌}
use Rattle.cores.specs.Machines.{pick}

-- f, but v at k
abbrev pub put : {A : Type 0} → (ℕ → A) → ℕ → A → ℕ → A
put f k v j = pick (j == k) v (f j)
