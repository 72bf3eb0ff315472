-- Arithmetic on words of 32 bits: sums wrap, and a word is signed by two's complement.
-- Assumes nothing: these are definitions.
use Rattle.std.specs.Prelude.{ℕ, ◌+◌, ◌-◌, ◌*◌, ◌/◌, ◌%◌, ◌^◌, Bool, cond, int_lt}
use Rattle.std.specs.Int.Signed.{shr_z}
use Rattle.std.specs.Int.{w32}
use Rattle.std.proofs.Common.{to_z, of_z}

abbrev pub add : ℕ → ℕ → ℕ
add x y = (x + y) % 2 ^ 32

abbrev pub sub : ℕ → ℕ → ℕ
sub x y = (x + (2 ^ 32 - y)) % 2 ^ 32

-- x shifted by the five low bits of y: to the left, to the right with zeros, to the right with its sign
abbrev pub sll : ℕ → ℕ → ℕ
sll x y = (x * 2 ^ (y % 32)) % 2 ^ 32

abbrev pub srl : ℕ → ℕ → ℕ
srl x y = x / 2 ^ (y % 32)

abbrev pub sra : ℕ → ℕ → ℕ
sra x y = of_z w32 (shr_z (to_z w32 x) (2 ^ (y % 32)))

-- whether x is below y as signed numbers
abbrev pub signed_below : ℕ → ℕ → Bool
signed_below x y = int_lt (to_z w32 x) (to_z w32 y)

abbrev pub bit : Bool → ℕ
bit b = cond b 1 0
