-- A word's bytes and halves: what the definitions of words come to.
use Rattle.std.proofs.Common.{◌≡◌, ℕ, ◌+◌, ◌-◌, ◌*◌, ◌/◌, ◌%◌, ◌^◌, ◌<◌, ◌≤◌, ◌⊎◌, sym, ap, ◌∙◌, subst, inl, inr, mul_assoc, add-mul, add_comm, arith}
use Rattle.std.proofs.lemmas.Nat.{pow_pos, pow-add, mod-pow-add, mod_below, shr-shr, shr_high, mod_low, mod-mul-add, field_of}
use Rattle.std.proofs.lemmas.Bool.{cases_lt}
use Rattle.words.proofs.Fields.{split_at}
use Rattle.words.specs.Laws.{FieldReplaced, FourBytes, TwoHalves}
use Rattle.words.specs.Word.{byte_at, field, replace}

-- what holds of each number below four, or below two, holds of every one
below_two : (P : ℕ → Type 0) → P 0 → P 1 → (n : ℕ) → n < 2 → P n
below_two P p q n h = elim (cases_lt n 1) [ inl l ↦ subst P (omega arith) p | inr l ↦ subst P (omega arith) q ]

pub four_bytes : FourBytes
four_bytes w h = omega (arith, mod-pow-add w 8 24, mod-pow-add w 8 16, mod-pow-add w 8 8)

half_of_bytes : (w j : ℕ) → j < 2 → field w (16 * j) 16 ≡ field w (8 * (2 * j)) 8 + 2 ^ 8 * field w (8 * (2 * j + 1)) 8
half_of_bytes w j h =
    below_two (λ i. field w (16 * i) 16 ≡ field w (8 * (2 * i)) 8 + 2 ^ 8 * field w (8 * (2 * i + 1)) 8) (omega (arith, mod-pow-add w 8 8))
    (omega (arith, mod-pow-add (w / 2 ^ 16) 8 8, shr-shr w 16 8)) j h

pub two_halves : TwoHalves
two_halves w h = (
  omega (arith, mod-pow-add w 16 16),
  λ a.
      let j : 2 * a / 2 % 2 ≡ a % 2 = omega arith in
      let k : 2 * a % 4 ≡ 2 * (a % 2) = omega arith in
      let m : 2 * a + 1 ≡ a / 2 * 4 + (2 * (a % 2) + 1) = omega arith in
      let l : (2 * a + 1) % 4 ≡ 2 * (a % 2) + 1 = ap (λ n. n % 4) m ∙ mod-mul-add (a / 2) 4 (2 * (a % 2) + 1) (omega arith) in
      ap (λ i. field w (16 * i) 16) j ∙ half_of_bytes w (a % 2) (omega arith)
      ∙ sym (ap (λ i. field w (8 * i) 8 + 2 ^ 8 * byte_at w (2 * a + 1)) k ∙ ap (λ i. field w (8 * (2 * (a % 2))) 8 + 2 ^ 8 * field w (8 * i) 8) l),
)

-- a replaced field, between what is above it and what is below
replaced : (w low size x : ℕ) → replace w low size x ≡ (w / 2 ^ (size + low) * 2 ^ size + x % 2 ^ size) * 2 ^ low + w % 2 ^ low
replaced w low size x =
    let high : w / 2 ^ (size + low) * 2 ^ size * 2 ^ low ≡ w / 2 ^ (size + low) * 2 ^ (size + low)
    = mul_assoc (w / 2 ^ (size + low)) (2 ^ size) (2 ^ low) ∙ ap (λ n. w / 2 ^ (size + low) * n) (sym (pow-add 2 size low)) in
    omega (arith, split_at w low size, add-mul (w / 2 ^ (size + low) * 2 ^ size) (x % 2 ^ size) (2 ^ low))

replaced_here : (w low size x : ℕ) → field (replace w low size x) low size ≡ x % 2 ^ size
replaced_here w low size x =
    ap (λ n. n / 2 ^ low % 2 ^ size) (replaced w low size x)
    ∙ ap (λ n. n % 2 ^ size) (shr_high (w / 2 ^ (size + low) * 2 ^ size + x % 2 ^ size) low (w % 2 ^ low) (mod_below w (2 ^ low) (pow_pos low)))
    ∙ mod_low (w / 2 ^ (size + low)) size (x % 2 ^ size) (mod_below x (2 ^ size) (pow_pos size))

-- two numbers that agree below bit k agree in the fields there, and two that agree above it in the fields there
agree_below : (v w k a n : ℕ) → v % 2 ^ k ≡ w % 2 ^ k → a + n ≤ k → field v a n ≡ field w a n
agree_below v w k a n e h =
    let at : k ≡ (k - (n + a)) + (n + a) = omega arith in
    let low : (y : ℕ) → y % 2 ^ k % 2 ^ (n + a) ≡ y % 2 ^ (n + a)
    = λ y.
    ap (λ i. y % 2 ^ i % 2 ^ (n + a)) at
    ∙ ap (λ z. z % 2 ^ (n + a)) (mod-pow-add y (k - (n + a)) (n + a))
    ∙ mod_low (field y (n + a) (k - (n + a))) (n + a) (y % 2 ^ (n + a)) (mod_below y (2 ^ (n + a)) (pow_pos (n + a))) in
    sym (field_of v n a) ∙ ap (λ y. y / 2 ^ a) (sym (low v) ∙ ap (λ y. y % 2 ^ (n + a)) e ∙ low w) ∙ field_of w n a

agree_above : (v w k a n : ℕ) → v / 2 ^ k ≡ w / 2 ^ k → k ≤ a → field v a n ≡ field w a n
agree_above v w k a n e h =
    let at : k + (a - k) ≡ a = omega arith in
    let high : (y : ℕ) → y / 2 ^ a ≡ y / 2 ^ k / 2 ^ (a - k) = λ y. ap (λ i. y / 2 ^ i) (sym at) ∙ sym (shr-shr y k (a - k)) in
    ap (λ y. y % 2 ^ n) (high v ∙ ap (λ y. y / 2 ^ (a - k)) e ∙ sym (high w))

replaced_above : (w low size x : ℕ) → replace w low size x / 2 ^ (low + size) ≡ w / 2 ^ (low + size)
replaced_above w low size x =
    let below : w % 2 ^ low < 2 ^ low = mod_below w (2 ^ low) (pow_pos low) in
    sym (shr-shr (replace w low size x) low size)
    ∙ ap (λ n. n / 2 ^ low / 2 ^ size) (replaced w low size x)
    ∙ ap (λ n. n / 2 ^ size) (shr_high (w / 2 ^ (size + low) * 2 ^ size + x % 2 ^ size) low (w % 2 ^ low) below)
    ∙ shr_high (w / 2 ^ (size + low)) size (x % 2 ^ size) (mod_below x (2 ^ size) (pow_pos size))
    ∙ ap (λ n. w / 2 ^ n) (add_comm size low)

replaced_beside : (w low size x a n : ℕ) → (a + n ≤ low) ⊎ (low + size ≤ a) → field (replace w low size x) a n ≡ field w a n
replaced_beside w low size x a n (inl h) =
    agree_below (replace w low size x) w low a n
    (ap (λ y. y % 2 ^ low) (replaced w low size x) ∙ mod_low (w / 2 ^ (size + low) * 2 ^ size + x % 2 ^ size) low (w % 2 ^ low) (mod_below w (2 ^ low) (pow_pos low))) h
replaced_beside w low size x a n (inr h) = agree_above (replace w low size x) w (low + size) a n (replaced_above w low size x) h

pub field_replaced : FieldReplaced
field_replaced w low size x = (replaced_here w low size x, replaced_beside w low size x)
