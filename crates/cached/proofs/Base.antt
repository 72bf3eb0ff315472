-- Ways to take a choice apart, and small facts of tests.
use Rattle.std.proofs.Common.{◌≡◌, ℕ, suc, ◌<◌, Bool, true, false, not, ◌&&◌, ◌||◌, eqb, ltb, ◌≢◌, sym, refl, ◌∙◌, arith}
use mathlib.Core.Bool.{false≢true}
use Rattle.cores.specs.Put.{put}
use Rattle.cores.proofs.Basics.{choose, same, differ}

-- a function that differs at one place, in two ways
pub at_put : {A : Type 0} (P : A → Type 0) (f : ℕ → A) (k : ℕ) (v : A) (j : ℕ) → (j ≡ k → P v) → (j ≢ k → P (f j)) → P (put f k v j)
at_put P f k v j g h = choose P (eqb j k) v (f j) (λ e. g (same j k e)) (λ e. h (differ j k e))

-- what holds of the new value and of the old one holds of each place
pub put_holds : {A : Type 0} (P : A → Type 0) (f : ℕ → A) (k : ℕ) (v : A) (j : ℕ) → P v → P (f j) → P (put f k v j)
put_holds P f k v j p q = at_put P f k v j (λ _. p) (λ _. q)

pub put_here : {A : Type 0} (f : ℕ → A) (k : ℕ) (v : A) → put f k v k ≡ v
put_here f k v = at_put (λ z. z ≡ v) f k v k (λ _. refl) (λ n. absurd (n refl))

pub clash : {P : Type 0} {b : Bool} → b ≡ true → b ≡ false → P
clash i j = absurd (false≢true (sym j ∙ i))

pub both : {x y : Bool} → (x && y) ≡ true → (x ≡ true) × (y ≡ true)
both {x} {y} e = grind arith

pub or_left : (x y : Bool) → x ≡ true → (x || y) ≡ true
or_left x y e = grind arith

pub or_right : (x y : Bool) → y ≡ true → (x || y) ≡ true
or_right x y e = grind arith

pub not_false : (b : Bool) → (b ≡ false → ⊥) → b ≡ true
not_false true h = refl
not_false false h = absurd (h refl)

pub unnot : (b : Bool) → not b ≡ false → b ≡ true
unnot b e = grind arith

pub eqb_self : (a : ℕ) → eqb a a ≡ true
eqb_self a = grind arith

pub less_four : (k : ℕ) → k < 4 → ltb k 4 ≡ true
less_four k l = grind arith

pub ltb_self : (n : ℕ) → (ltb n n ≡ false) × (ltb n (suc n) ≡ true)
ltb_self n = (grind arith, grind arith)

pub ltb_next : (i n : ℕ) → i ≢ n → ltb i (suc n) ≡ ltb i n
ltb_next i n d = grind arith

pub three : (x y z : Bool) → (x && (y && z)) ≡ true → (x ≡ true) × (y ≡ true) × (z ≡ true)
three x y z e = (grind arith, grind arith, grind arith)
