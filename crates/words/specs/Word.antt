-- A word of 32 bits as a number: its fields, its bytes and halves, and sign extension.
-- Assumes nothing: these are definitions.
use Rattle.std.specs.Prelude.{ℕ, ◌+◌, ◌-◌, ◌*◌, ◌/◌, ◌%◌, ◌^◌, cond, nat_lt}

-- `size` bits of a word from bit `low`
abbrev pub field : ℕ → ℕ → ℕ → ℕ
field word low size = word / 2 ^ low % 2 ^ size

-- a word whose `size` bits from bit `low` are replaced by the low bits of x
abbrev pub replace : ℕ → ℕ → ℕ → ℕ → ℕ
replace word low size x = word - field word low size * 2 ^ low + x % 2 ^ size * 2 ^ low

-- the low `size` bits of x as a word of the same sign: with the highest of them set it is negative
abbrev pub extend : ℕ → ℕ → ℕ
extend size x = cond (nat_lt (x % 2 ^ size) (2 ^ (size - 1))) (x % 2 ^ size) (x % 2 ^ size + (2 ^ 32 - 2 ^ size))

-- the byte, or the half, of a word that an address is of: low byte first
abbrev pub byte_at : ℕ → ℕ → ℕ
byte_at word address = field word (8 * (address % 4)) 8

abbrev pub half_at : ℕ → ℕ → ℕ
half_at word address = field word (16 * (address / 2 % 2)) 16

-- the word with that byte, or half, replaced by the low bits of x
abbrev pub with_byte : ℕ → ℕ → ℕ → ℕ
with_byte word address x = replace word (8 * (address % 4)) 8 x

abbrev pub with_half : ℕ → ℕ → ℕ → ℕ
with_half word address x = replace word (16 * (address / 2 % 2)) 16 x
