-- Counts that grow, in numbers alone: from a rank that falls until something happens to how often it happens; and the rank of one of n that have turns.
use Rattle.std.proofs.Common.{◌≡◌, ℕ, zero, suc, ◌+◌, ◌-◌, ◌*◌, ◌<◌, ◌≤◌, eqb, ltb, ◌≢◌, ◌⊎◌, subst, inl, inr, mul-le-mul_right, arith}
use Rattle.cores.specs.Machines.{pick}
use Rattle.cores.specs.Owed.{following}
use Rattle.cores.proofs.Basics.{by_test, same, differ}

-- what each step keeps is kept from c to e
module _ (P : ℕ → Type 0) (stays : (c : ℕ) → P c → P (suc c)) where
  pub kept_till : (e c : ℕ) → c ≤ e → P c → P e
  kept_till zero c l p = subst P (omega arith) p
  kept_till (suc e) c l p = by_test (eqb c (suc e)) (λ t. subst P (same c (suc e) t) p)
      (λ t. let n : c ≢ suc e = differ c (suc e) t in stays e (kept_till e c (omega arith) p))

pub grown : (f : ℕ → ℕ) → ((c : ℕ) → f c ≤ f (suc c)) → (e c : ℕ) → c ≤ e → f c ≤ f e
grown f g e c l = kept_till (λ d. f c ≤ f d) (λ d h. let z : f d ≤ f (suc d) = g d in omega arith) e c l (omega arith)

-- in each step what f counts happens, or it is over, or the rank falls
module _ (f rank : ℕ → ℕ) (Over : ℕ → Type 0) (grows : (c : ℕ) → f c ≤ f (suc c)) (stays : (c : ℕ) → Over c → Over (suc c))
    (moves : (c : ℕ) → (f c < f (suc c)) ⊎ (Over c ⊎ (rank (suc c) < rank c))) where
  once_more : (r c e : ℕ) → rank c < r → c + r ≤ e → (f c < f e) ⊎ Over e
  once_more zero c e h l = absurd (omega arith)
  once_more (suc r) c e h l = go (λ z. once_more r (suc c) e z (omega arith)) (moves c)
    where
      next : (f (suc c) < f e) ⊎ Over e → (f c < f e) ⊎ Over e
      next (inl z) = inl (let y : f c ≤ f (suc c) = grows c in omega arith)
      next (inr z) = inr z

      go : (rank (suc c) < r → (f (suc c) < f e) ⊎ Over e) → (f c < f (suc c)) ⊎ (Over c ⊎ (rank (suc c) < rank c)) → (f c < f e) ⊎ Over e
      go ih (inl z) = inl (let y : f (suc c) ≤ f e = grown f grows e (suc c) (omega arith) in omega arith)
      go ih (inr (inl z)) = inr (kept_till Over stays e c (omega arith) z)
      go ih (inr (inr z)) = next (ih (omega arith))

  module _ (bound : ℕ) (small : (c : ℕ) → rank c < bound) where
    -- it happens t times in bound * t steps, or it is over
    pub often : (t c e : ℕ) → c + bound * t ≤ e → (f c + t ≤ f e) ⊎ Over e
    often zero c e l = inl (let y : f c ≤ f e = grown f grows e c (omega arith) in omega arith)
    often (suc t) c e l = go (once_more bound c (c + bound) (small c) (omega arith)) (often t (c + bound) e (omega arith))
      where
        go : (f c < f (c + bound)) ⊎ Over (c + bound) → (f (c + bound) + t ≤ f e) ⊎ Over e → (f c + suc t ≤ f e) ⊎ Over e
        go (inl z) (inl y) = inl (omega arith)
        go (inl z) (inr y) = inr y
        go (inr z) (inl y) = inr (kept_till Over stays e (c + bound) (omega arith) z)
        go (inr z) (inr y) = inr y

-- of n that have turns
module _ (n : ℕ) where
  -- how many turns until k has it
  abbrev pub ahead : ℕ → ℕ → ℕ
  ahead t k = pick (ltb k t) (k + n - t) (k - t)

  ahead_small : (t k : ℕ) → t < n → k < n → ahead t k < n
  ahead_small t k a b = grind arith

  ahead_falls : (t k : ℕ) → t < n → k < n → k ≢ t → suc (ahead (following n t) k) ≡ ahead t k
  ahead_falls t k a b d = grind arith

  -- the rank of k, where a turn lasts less than round steps, it is t's turn, and that lasts ρ steps more
  abbrev pub rank_by_turns : ℕ → ℕ → ℕ → ℕ → ℕ
  rank_by_turns round t ρ k = ahead t k * round + ρ

  -- it falls when the turn passes
  pub rank_passes : (round t ρ σ k : ℕ) → t < n → k < n → k ≢ t → σ < round → rank_by_turns round (following n t) σ k < rank_by_turns round t ρ k
  rank_passes round t ρ σ k a b d s = go (ahead (following n t) k) (ahead t k) (ahead_falls t k a b d)
    where
      go : (x y : ℕ) → suc x ≡ y → x * round + σ < y * round + ρ
      go x y e = rw (← e) (omega arith)

  pub rank_small : (round t ρ k : ℕ) → t < n → k < n → n ≤ 4 → ρ < round → rank_by_turns round t ρ k < 4 * round
  rank_small round t ρ k a b m s = go (ahead t k) (let z : ahead t k < n = ahead_small t k a b in omega arith)
    where
      go : (x : ℕ) → x < 4 → x * round + ρ < 4 * round
      go x l = let z : suc x * round ≤ 4 * round = mul-le-mul_right round l in omega arith

-- a rank of two parts falls where the first falls, or where it stays and the second falls
pub two_parts : (r a b c d : ℕ) → d < r → (c < a) ⊎ ((c ≡ a) × (d < b)) → c * r + d < a * r + b
two_parts r a b c d s (inl h) = let z : suc c * r ≤ a * r = mul-le-mul_right r h in omega arith
two_parts r a b c d s (inr h) = rw h.0 (let z : d < b = h.1 in omega arith)
