-- A few bytes by value.
-- Assumes nothing: these are definitions.
use Rattle.std.specs.Prelude.{ℕ, List, take, Ok, Err, Result}
use Rattle.layout.specs.declared.fault.Fault.{Fault}

-- the first of the bytes that are given
abbrev pub first_bytes : ℕ → Result (List ℕ) Fault → Result (List ℕ) Fault
first_bytes n (Ok bytes) = Ok (take n bytes)
first_bytes n (Err fault) = Err fault
