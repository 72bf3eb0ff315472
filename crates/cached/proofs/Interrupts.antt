-- A core whose line is up, and that the manual lets, takes the interrupt in the next cycle.
use Rattle.std.proofs.Common.{◌≡◌, ℕ, suc, ◌+◌, ◌<◌, ◌≤◌, Bool, true, false, ◌&&◌, eqb, ltb, ◌≢◌, [], ◌∷◌, sym, refl, ap, ◌∙◌, subst, arith}
use Rattle.cores.specs.Board.{Out}
use Rattle.cores.specs.Loop.{each, joined}
use Rattle.cores.specs.Machines.{interrupt, interrupts}
use Rattle.cores.proofs.Basics.{choose, same, differ}
use Rattle.cores.proofs.Machines.{interrupts_append}
use Rattle.cached.specs.Soc.{State, act}
use Rattle.cached.specs.Kind.{Kind, Laws}
use Rattle.cached.proofs.Acting.{each_out, leaves}
use Rattle.cached.proofs.Base.{clash}

module _ (κ : Kind) (laws : Laws κ) where
  module _ (up : ℕ → Bool) (k : ℕ) (raised : up k ≡ true) where
    below : (i n : ℕ) → ltb i n ≡ false → i < n → ⊥
    below i n e l = grind arith

    and_true : (x y : Bool) → x ≡ true → y ≡ true → (x && y) ≡ true
    and_true x y a b = grind arith

    abbrev Broke : State κ × Out → Type 0
    Broke r = r.1.did ≡ interrupt k ∷ []

    breaks : (c : State κ) → c.on k ≡ true → κ.isa.lets (c.cpu k) ≡ true → k < c.count → (act κ up k c).1.did ≡ interrupt k ∷ []
    breaks c on lt small = choose Broke (c.on k) _ _
        (λ o. choose Broke (ltb k c.count) _ _
        (λ l. choose Broke (up k && κ.isa.lets (c.cpu k)) _ _ (λ v. refl) (λ v. clash (and_true (up k) (κ.isa.lets (c.cpu k)) raised lt) v))
        (λ n. absurd (below k c.count n small)))
        (λ n. clash on n)

    counts : interrupts k (interrupt k ∷ []) ≡ 1
    unfolding interrupts
    counts = grind arith

    record SoFar (c : State κ) (n : ℕ) (r : State κ × Out) : Type 0 where
      pub on : n ≤ k → r.0.on k ≡ true
      pub cpu : n ≤ k → r.0.cpu k ≡ c.cpu k
      pub count : r.0.count ≡ c.count
      pub broke : k < n → 1 ≤ interrupts k r.1.did

    so_far_step : (c : State κ) → κ.isa.lets (c.cpu k) ≡ true → k < c.count → (n : ℕ) (r : State κ × Out) → SoFar c n r → SoFar c (suc n) ((act κ up n r.0).0, joined r.1 (act κ up n r.0).1)
    so_far_step c lt small n r h = let l = leaves κ laws up n r.0 in record {
      on = λ e. l.on k (λ i. omega arith) ∙ h.on (omega arith);
      cpu = λ e. l.cpu k (λ i. omega arith) ∙ h.cpu (omega arith);
      count = l.count ∙ h.count;
      broke = λ e. rw (interrupts_append k r.1.did (act κ up n r.0).1.did) (go e (eqb n k) refl);
    }
      where
        own : n ≡ k → interrupts k (act κ up n r.0).1.did ≡ 1
        own i = subst (λ (x : ℕ). interrupts k (act κ up x r.0).1.did ≡ 1) (sym i)
            (ap (interrupts k) (breaks r.0 (h.on (omega arith)) (ap κ.isa.lets (h.cpu (omega arith)) ∙ lt) (subst (λ (x : ℕ). k < x) (sym h.count) small)) ∙ counts)

        go : k < suc n → (z : Bool) → eqb n k ≡ z → 1 ≤ interrupts k r.1.did + interrupts k (act κ up n r.0).1.did
        go e true z = let y = own (same n k z) in omega arith
        go e false z = let d : n ≢ k = differ n k z in let y = h.broke (omega arith) in omega arith

    pub acts_break : (c : State κ) → c.on k ≡ true → κ.isa.lets (c.cpu k) ≡ true → k < c.count → k < 4 → 1 ≤ interrupts k (each (act κ up) 4 c).1.did
    unfolding each
    acts_break c on lt small few = (each_out κ (act κ up) (λ d. Unit {0}) (SoFar c) (λ i d x. tt) (λ n r x h. so_far_step c lt small n r h) 4 c tt
        (record { on = λ e. on; cpu = λ e. refl; count = refl; broke = λ e. absurd (omega arith) })).1.broke few
