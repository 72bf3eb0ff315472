-- Bits past a number's own.
use Rattle.std.proofs.Common.{◌≡◌, ℕ, ◌/◌, ◌^◌, ◌<◌, ◌≤◌, false, arith, pow_mono}
use native.Mathlib.Nat.{div-eq_of_lt}
use Rattle.image.specs.Choices.{up, beyond}
use Rattle.image.specs.ChoiceLaws.{OthersAreDown}

none_past : (x n k : ℕ) → x < 2 ^ n → n ≤ k → x / 2 ^ k ≡ 0
none_past x n k h l =
    let m : 2 ^ n ≤ 2 ^ k = pow_mono l in
    let s : x < 2 ^ k = omega arith in
    div-eq_of_lt s

pub others_down : OthersAreDown
others_down n x k h l = rw (none_past x n k h l)

pub not_beyond : (n x : ℕ) → x < 2 ^ n → beyond n x ≡ false
not_beyond n x h = rw (none_past x n n h (omega arith))

-- a byte has no bit from the eighth on
pub byte_down : (x k : ℕ) → x < 256 → 8 ≤ k → up x k ≡ false
byte_down x k h l = others_down 8 x k h l

pub byte_not_beyond : (x k : ℕ) → x < 256 → 8 ≤ k → beyond k x ≡ false
byte_not_beyond x k h l = rw (none_past x 8 k h l)
