-- What parts of numbers and alignments come to.
use Rattle.std.proofs.Common.{◌≡◌, ℕ, ◌+◌, ◌-◌, ◌*◌, ◌/◌, ◌%◌, ◌^◌, ◌<◌, ◌≤◌, eqb, ◌≢◌, ap, ◌∙◌, mod-lt, mul-one, mul-add, arith, pow_pos}
use native.Mathlib.Nat.{div-add-mod, mul-mod_right}
use Rattle.std.proofs.lemmas.Bool.{cond_both, eqb-false, eqb-true}
use Rattle.words.specs.Word.{extend}
use Rattle.rv32.specs.Arithmetic.{add, sub}
use Rattle.layout.specs.Laws.{AlignedFirst, Distances, HighLow}
use Rattle.layout.specs.Layout.{high}

pub high_low : HighLow
high_low x h = (omega arith, grind arith)

add_add : (a b c : ℕ) → add (add a b) c ≡ add a (add b c)
add_add a b c = omega arith

back : (here : ℕ) → here < 2 ^ 32 → sub (add here 4) 4 ≡ here
back here h = omega arith

there : (here x : ℕ) → here < 2 ^ 32 → x < 2 ^ 32 → add here (sub x here) ≡ x
there here x h l = omega arith

pub distances : Distances
distances here x h l =
    let parts = (high_low (sub x here) (omega arith)).1 in (
      there here x h l,
      ap (λ (a : ℕ). add (add here (high (sub x here))) (extend 12 (sub x a))) (back here h) ∙ add_add here (high (sub x here)) (extend 12 (sub x here)) ∙ ap (add here) parts ∙ there here x h l,
    )

pub aligned_first : AlignedFirst
aligned_first here bits =
    let u : ℕ = 2 ^ bits in
    let some : 0 < u = pow_pos bits in
    let less : here % u < u = mod-lt here some in
    let parts : u * (here / u) + here % u ≡ here = div-add-mod here u in
    let more : u * (here / u + 1) ≡ u * (here / u) + u = mul-add u (here / u) 1 ∙ ap (λ (n : ℕ). u * (here / u) + n) (mul-one u) in
    let whole : here + (u - here % u) ≡ u * (here / u + 1) = omega arith in
    cond_both (eqb (here % u) 0) here (here + (u - here % u)) (λ (a : ℕ). (a % u ≡ 0) × (here ≤ a) × (a < here + u))
    (λ e. (eqb-true (here % u) 0 e, omega arith, omega arith))
    (λ e. let ne : here % u ≢ 0 = eqb-false (here % u) 0 e in (ap (λ (n : ℕ). n % u) whole ∙ mul-mod_right u (here / u + 1), omega arith, omega arith))
