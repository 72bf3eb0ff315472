-- The fields of a word that are operands, and what is wrong with one.
-- Assumes nothing: these are definitions.
use Rattle.std.specs.Prelude.{◌≡◌, ℕ, Some, None, Ok, Err, Option, Result}
use Rattle.encode.specs.Encode.{register_fault, shift_fault}
use Rattle.encode.specs.declared.field.Field.{Field}
use Rattle.encode.specs.declared.format.Second.{Second}
use Rattle.encode.specs.declared.format.Second.TheVariants.{Register, Amount}
use Rattle.encode.specs.declared.misfit.Misfit.{Misfit}

abbrev pub second_fault : Second → Option Misfit
second_fault (Register n) = register_fault n
second_fault (Amount x) = shift_fault x

abbrev pub second_number : Second → ℕ
second_number (Register n) = n
second_number (Amount x) = x

-- a field with a number that is given unless there is a fault, which is given otherwise
abbrev pub GivesField : {size : ℕ} → Option Misfit → ℕ → Result (Field size) Misfit → Type 0
GivesField fault x (Ok f) = (fault ≡ None) × (f.number ≡ x)
GivesField fault x (Err m) = fault ≡ Some m
