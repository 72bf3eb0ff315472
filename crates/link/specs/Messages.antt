-- What is on its way from the directory to a core: at most one grant, which brings a line, and at most one probe, which asks for a line back.
-- Assumes nothing: these are definitions.
use Rattle.std.specs.Prelude.{ℕ, Bool, true, false, ◌&&◌, ◌==◌}
use Rattle.cores.specs.Machines.{pick}
use Rattle.cores.specs.Put.{put}
use Rattle.cache.specs.Slots.{Slot}

-- nothing is granted, or a place gets what a slot is to have
pub data Grant : Type 0 where
  quiet : Grant
  grant : ℕ → Slot → Grant

abbrev pub is_quiet : Grant → Bool
is_quiet quiet = true
is_quiet (grant p x) = false

-- the caches once a grant is taken
abbrev pub filled : Grant → (ℕ → Slot) → ℕ → Slot
filled quiet f = f
filled (grant q y) f = put f q y

-- nothing is asked, or that a place let go of a line: its place, its line, and whether another wants to write it, so that it is to be
-- invalidated, or only to read it, so that it is to be downgraded
pub data Probe : Type 0 where
  unasked : Probe
  ask : ℕ → ℕ → Bool → Probe

abbrev pub is_unasked : Probe → Bool
is_unasked unasked = true
is_unasked (ask p a o) = false

-- no core is asked anything
abbrev pub all_unasked : (ℕ → Probe) → Bool
all_unasked t = is_unasked (t 0) && is_unasked (t 1) && is_unasked (t 2) && is_unasked (t 3)

-- a place has x, or what is granted to it
abbrev pub over : Grant → ℕ → Slot → Slot
over quiet p x = x
over (grant q y) p x = pick (p == q) y x
