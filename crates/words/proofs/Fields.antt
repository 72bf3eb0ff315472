-- Lemmas on fields of a word: one can be taken out of it, and another put there.
use Rattle.std.proofs.Common.{◌≡◌, ℕ, ◌+◌, ◌-◌, ◌*◌, ◌/◌, ◌%◌, ◌^◌, ◌<◌, ◌≤◌, sym, ap, ◌∙◌, subst, ⊎_elim, mod-eq_of_lt, div-le_self, arith, pow_mono}
use native.Mathlib.Nat.{div-eq_of_lt, mul-sub, add-mul-mod_self_left}
use lib.Arith.{digits_lt}
use Rattle.std.proofs.lemmas.Nat.{pow_pos, pow-add, shr_split, mod-pow-add, mod_below, mul-add-lt, shl_below, shr_below}
use Rattle.std.proofs.lemmas.Bool.{cases_lt, cond-true, cond-false, lt-ltb, le-ltb}
use Rattle.words.specs.Laws.{ExtendedSame}
use Rattle.words.specs.Word.{field, replace, extend}

-- a number below 2 ^ 32 is below any higher power
below_power : (w n : ℕ) → w < 2 ^ 32 → 32 ≤ n → w < 2 ^ n
below_power w n h k = omega (arith, pow_mono {i = 32} {j = n} k)

pub field_past : (w low size : ℕ) → w < 2 ^ 32 → 32 ≤ low → 0 ≡ field w low size
field_past w low size h k = let e : w / 2 ^ low ≡ 0 = div-eq_of_lt (below_power w low h k) in rw e (omega (arith, mod-eq_of_lt {n = 0} {m = 2 ^ size} (pow_pos size)))

pub field_all : (w low size : ℕ) → w < 2 ^ 32 → 32 ≤ size → w / 2 ^ low ≡ field w low size
field_all w low size h k = sym (mod-eq_of_lt (below_power (w / 2 ^ low) size (omega (arith, div-le_self w (2 ^ low))) k))

pub field_below : (w low size : ℕ) → field w low size < 2 ^ size
field_below w low size = mod_below (w / 2 ^ low) (2 ^ size) (pow_pos size)

-- a word is what is above a field, the field, and what is below
pub split_at : (w low size : ℕ) → w ≡ w / 2 ^ (size + low) * 2 ^ (size + low) + (field w low size * 2 ^ low + w % 2 ^ low)
split_at w low size = sym (ap (λ x. w / 2 ^ (size + low) * 2 ^ (size + low) + x) (sym (mod-pow-add w size low)) ∙ shr_split w (size + low))

pub field_within : (w low size : ℕ) → field w low size * 2 ^ low ≤ w
field_within w low size = omega (arith, split_at w low size)

placed : (low size x : ℕ) → x < 2 ^ size → low + size ≤ 32 → x * 2 ^ low < 2 ^ 32
placed low size x h k =
    let wide : 2 ^ (size + low) ≤ 2 ^ 32 = pow_mono {i = size + low} {j = 32} (omega arith) in
    omega (arith, shl_below x size low h)

pub replace_fits : (w low size x : ℕ) → w < 2 ^ 32 → low + size ≤ 32 → replace w low size x < 2 ^ 32
replace_fits w low size x h k =
    let m : ℕ = size + low in
    let sum : 32 - m + m ≡ 32 = omega arith in
    let within : x % 2 ^ size * 2 ^ low + w % 2 ^ low < 2 ^ low * 2 ^ size
    = mul-add-lt (x % 2 ^ size) (2 ^ low) (w % 2 ^ low) (2 ^ size) (mod_below x (2 ^ size) (pow_pos size)) (mod_below w (2 ^ low) (pow_pos low)) in
    let within-m : x % 2 ^ size * 2 ^ low + w % 2 ^ low < 2 ^ m = omega (arith, within, pow-add 2 size low) in
    let above : w / 2 ^ m < 2 ^ (32 - m) = shr_below w (32 - m) m (subst (λ n. w < 2 ^ n) (sym sum) h) in
    let all : w / 2 ^ m * 2 ^ m + (x % 2 ^ size * 2 ^ low + w % 2 ^ low) < 2 ^ (32 - m) * 2 ^ m = digits_lt above within-m in
    let top : 2 ^ (32 - m) * 2 ^ m ≡ 2 ^ 32 = sym (pow-add 2 (32 - m) m) ∙ ap (λ n. 2 ^ n) sum in
    omega (arith, split_at w low size)

-- neither the field that is taken out nor the one that is put in loses a bit where it is shifted into its place
pub old_shifted : (w low size f : ℕ) → w < 2 ^ 32 → f ≡ field w low size → f * 2 ^ low % 2 ^ 32 ≡ field w low size * 2 ^ low
old_shifted w low size f h e =
    let small : f * 2 ^ low < 2 ^ 32 = subst (λ n. n * 2 ^ low < 2 ^ 32) (sym e) (omega (arith, field_within w low size)) in
    mod-eq_of_lt small ∙ ap (λ n. n * 2 ^ low) e

-- the low bits, as a field from bit 0
pub low_field : (x size : ℕ) → field x 0 size ≡ x % 2 ^ size
low_field x size = ap (λ n. n % 2 ^ size) (omega arith)

pub new_shifted : (low size x v : ℕ) → low + size ≤ 32 → v ≡ field x 0 size → v * 2 ^ low % 2 ^ 32 ≡ x % 2 ^ size * 2 ^ low
new_shifted low size x v k e =
    let e' : v ≡ x % 2 ^ size = e ∙ low_field x size in
    let small : v * 2 ^ low < 2 ^ 32 = placed low size v (subst (λ n. n < 2 ^ size) (sym e') (mod_below x (2 ^ size) (pow_pos size))) k in
    mod-eq_of_lt small ∙ ap (λ n. n * 2 ^ low) e'

-- twice the power below
pub double_power : (size : ℕ) → 1 ≤ size → 2 ^ size ≡ 2 * 2 ^ (size - 1)
double_power size h = let e : size ≡ (size - 1) + 1 = omega arith in omega (arith, ap (λ n. 2 ^ n) e, pow-add 2 (size - 1) 1)

pub power_below : (size : ℕ) → 1 ≤ size → size < 32 → 1 * 2 ^ (size - 1) % 2 ^ 32 ≡ 2 ^ (size - 1)
power_below size h k =
    let small : 2 ^ (size - 1) ≤ 2 ^ 31 = pow_mono {i = size - 1} {j = 31} (omega arith) in
    let fits : 1 * 2 ^ (size - 1) < 2 ^ 32 = omega arith in
    mod-eq_of_lt fits ∙ omega arith

-- sign extension, by the highest bit
pub extend_low : (size x : ℕ) → x % 2 ^ size < 2 ^ (size - 1) → extend size x ≡ x % 2 ^ size
extend_low size x h = cond-true _ _ _ (lt-ltb (x % 2 ^ size) (2 ^ (size - 1)) h)

pub extend_high : (size x : ℕ) → 2 ^ (size - 1) ≤ x % 2 ^ size → extend size x ≡ x % 2 ^ size + (2 ^ 32 - 2 ^ size)
extend_high size x h = cond-false _ _ _ (le-ltb (x % 2 ^ size) (2 ^ (size - 1)) h)

-- a whole word stays
pub extend_word : (size x : ℕ) → x < 2 ^ 32 → 32 ≤ size → x ≡ extend size x
extend_word size x h k =
    let whole : x % 2 ^ size ≡ x = mod-eq_of_lt (below_power x size h k) in
    let wide : 2 ^ 32 ≤ 2 ^ size = pow_mono {i = 32} {j = size} k in
    ⊎_elim (λ l. omega (arith, extend_low size x l)) (λ g. omega (arith, extend_high size x g)) (cases_lt (x % 2 ^ size) (2 ^ (size - 1)))

pub extended : ExtendedSame
extended size x h k =
    let low : x % 2 ^ size < 2 ^ size = mod_below x (2 ^ size) (pow_pos size) in
    let wide : 2 ^ size ≤ 2 ^ 32 = pow_mono {i = size} {j = 32} k in
    let sum : 32 ≡ size + (32 - size) = omega arith in
    let whole : 2 ^ 32 ≡ 2 ^ size * 2 ^ (32 - size) = ap (λ n. 2 ^ n) sum ∙ pow-add 2 size (32 - size) in
    let rest : 2 ^ 32 - 2 ^ size ≡ 2 ^ size * (2 ^ (32 - size) - 1) = omega (arith, mul-sub (2 ^ size) (2 ^ (32 - size)) 1) in
    ⊎_elim
    (λ l. (ap (λ n. n % 2 ^ size) (extend_low size x l) ∙ mod-eq_of_lt low, omega (arith, extend_low size x l)))
    (λ g. (
      ap (λ n. n % 2 ^ size) (extend_high size x g)
          ∙ ap (λ n. (x % 2 ^ size + n) % 2 ^ size) rest
          ∙ add-mul-mod_self_left (x % 2 ^ size) (2 ^ size) (2 ^ (32 - size) - 1)
          ∙ mod-eq_of_lt low,
      omega (arith, extend_high size x g),
    ))
    (cases_lt (x % 2 ^ size) (2 ^ (size - 1)))
