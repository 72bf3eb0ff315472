-- Numbers as they are written in a source, and the two parts of a number that LUI and ADDI load.
-- Assumes nothing: these are definitions.
use Rattle.std.specs.Prelude.{◌≡◌, ℕ, ◌+◌, ◌-◌, ◌*◌, ◌%◌, ◌^◌, Bool, cond, ◌&&◌, ◌||◌, List, length, drop, Some, None, Option, ◌==◌, nat_le, nat_lt, slice_index}
use Rattle.std.specs.List.{fold}
use Rattle.words.specs.Word.{extend}

-- x lies from a to b
abbrev pub between : ℕ → ℕ → ℕ → Bool
between a b x = nat_le a x && nat_le x b

-- the value of a byte as a digit: 0 to 9, a to f, A to F
abbrev pub digit : ℕ → Option ℕ
digit b = cond (between 48 57 b) (Some (b - 48)) (cond (between 97 102 b) (Some (b - 97 + 10)) (cond (between 65 70 b) (Some (b - 65 + 10)) None))

-- a number and one digit more, to a base; none past 32 bits, or where the digit is none of the base
abbrev pub joined : ℕ → ℕ → Option ℕ → Option ℕ
joined base sum None = None
joined base sum (Some d) = cond (nat_lt d base && nat_lt (sum * base + d) (2 ^ 32)) (Some (sum * base + d)) None

abbrev pub with_digit : ℕ → Option ℕ → ℕ → Option ℕ
with_digit base None b = None
with_digit base (Some sum) b = joined base sum (digit b)

-- the number that digits to a base are, high digit first; none where there is no digit
abbrev pub digits : ℕ → List ℕ → Option ℕ
digits base bs = cond (length bs == 0) None (fold (with_digit base) (Some 0) bs)

-- a text begins with 0x or 0X
abbrev pub hexadecimal : List ℕ → Bool
hexadecimal bs = nat_le 2 (length bs) && (slice_index bs 0 == 48 && (slice_index bs 1 == 120 || slice_index bs 1 == 88))

-- the number that a text is: 0x and hexadecimal digits, or decimal digits
abbrev pub number_of : List ℕ → Option ℕ
number_of bs = cond (hexadecimal bs) (digits 16 (drop 2 bs)) (digits 10 bs)

-- what LUI loads and what ADDI then adds: a multiple of 4096 and a sign-extended number of 12 bits whose sum, modulo 2 ^ 32, is the number
pub record Splits (value high low : ℕ) : Type 0 where
  pub upper : high % 4096 ≡ 0
  pub lower : low ≡ extend 12 (value % 4096)
  pub joined : (high + low) % 2 ^ 32 ≡ value
