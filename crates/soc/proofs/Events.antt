-- What a cycle does: the interrupts that are let and raised, and at most one instruction.
use Rattle.std.proofs.Common.{◌≡◌, ℕ, zero, suc, ◌<◌, ◌≤◌, Bool, true, false, ◌&&◌, eqb, ◌≢◌, List, [], ◌∷◌, ◌++◌, length, Some, None, Option, sym, refl, ap, ◌∙◌, arith}
use mathlib.Core.Bool.{false≢true}
use Rattle.cores.specs.Machines.{pick, Event, step, steps, interrupts}
use Rattle.cores.specs.Board.{Out, handed, kept}
use Rattle.cores.specs.Loop.{each}
use Rattle.cores.specs.Owed.{Allowed}
use Rattle.cores.proofs.Basics.{by_test, choose, same, differ}
use Rattle.cores.proofs.Machines.{steps_append, interrupts_append}
use Rattle.cores.proofs.Loop.{Lets, then_lets, each_lets, before, behind, own_row, none_row}
use Rattle.soc.specs.Kind.{Kind, Laws}
use Rattle.soc.specs.Soc.{State, lacks, received, takes, take_interrupt, try, act_while, act, cycle}
use Rattle.soc.proofs.Keeps.{Man, Cpu, Agrees, receive_agrees, interrupts_keep, loop_keeps, cpu_in, on_in, on_there}

apart : (j k : ℕ) → j ≢ k → eqb j k ≡ false
apart j k n = grind arith

self : (k : ℕ) → eqb k k ≡ true
self k = grind arith

module _ (κ : Kind) where
  -- the chip with other registers
  abbrev pub with_cpus : (ℕ → Cpu κ) → State κ → State κ
  with_cpus f h = record {
    count = h.count;
    size = h.size;
    turn = h.turn;
    cpu = f;
    on = h.on;
    fetched = h.fetched;
    loaded = h.loaded;
    asked = h.asked;
  }

  module _ (up : ℕ → Bool) where
    pub takes_parts : (k : ℕ) (h : State κ) → takes κ up k h ≡ true → (h.on k ≡ true) × (up k ≡ true) × (κ.isa.lets (h.cpu k) ≡ true)
    takes_parts k h e = go (h.on k) (up k) (κ.isa.lets (h.cpu k)) e
      where
        go : (a b c : Bool) → (a && (b && c)) ≡ true → (a ≡ true) × (b ≡ true) × (c ≡ true)
        go a b c e = grind arith

    -- one core's interrupt: registers of the others, and all else, stay
    one_rest : (j : ℕ) (h : State κ) → (take_interrupt κ up j h).0 ≡ with_cpus (take_interrupt κ up j h).0.cpu h
    one_rest j h = choose (λ (r : State κ × Out). r.0 ≡ with_cpus r.0.cpu h) (takes κ up j h) _ _ (λ _. refl) (λ _. refl)

    one_other : (k j : ℕ) (h : State κ) → j ≢ k → (take_interrupt κ up j h).0.cpu k ≡ h.cpu k
    one_other k j h n = choose (λ (r : State κ × Out). r.0.cpu k ≡ h.cpu k) (takes κ up j h) _ _ (λ _. rw (apart k j (λ e. n (sym e)))) (λ _. refl)

    one_own : (k : ℕ) (h : State κ) → (take_interrupt κ up k h).0.cpu k ≡ pick (takes κ up k h) (κ.isa.enters (h.cpu k)) (h.cpu k)
    one_own k h = by_test (takes κ up k h) (λ e. rw (e, self k)) (λ e. rw e)

    one_steps : (k j : ℕ) (h : State κ) → steps k (take_interrupt κ up j h).1.did ≡ 0
    unfolding steps
    one_steps k j h = choose (λ (r : State κ × Out). steps k r.1.did ≡ 0) (takes κ up j h) _ _ (λ _. refl) (λ _. refl)

    one_interrupts : (k j : ℕ) (h : State κ) → j ≢ k → interrupts k (take_interrupt κ up j h).1.did ≡ 0
    unfolding interrupts
    one_interrupts k j h n = choose (λ (r : State κ × Out). interrupts k r.1.did ≡ 0) (takes κ up j h) _ _ (λ _. rw (apart j k n)) (λ _. refl)

    own_interrupts : (k : ℕ) (h : State κ) → interrupts k (take_interrupt κ up k h).1.did ≡ pick (takes κ up k h) 1 0
    unfolding interrupts
    own_interrupts k h = by_test (takes κ up k h) (λ e. rw (e, self k)) (λ e. rw e)

    one_lowered : (k j : ℕ) (h : State κ) → up k ≡ false → interrupts k (take_interrupt κ up j h).1.did ≡ 0
    unfolding interrupts
    one_lowered k j h d = by_test (eqb j k)
        (λ e. choose (λ (r : State κ × Out). interrupts k r.1.did ≡ 0) (takes κ up j h) _ _
        (λ t. absurd (false≢true (sym d ∙ ap up (sym (same j k e)) ∙ (takes_parts j h t).1))) (λ _. refl))
        (λ e. one_interrupts k j h (differ j k e))

    -- the interrupts of all cores
    abbrev loop : ℕ → State κ → State κ × Out
    loop = each (take_interrupt κ up)

    pub loop_rest : (j : ℕ) (h : State κ) → (loop j h).0 ≡ with_cpus (loop j h).0.cpu h
    unfolding each
    loop_rest zero h = refl
    loop_rest (suc j) h = one_rest j (loop j h).0 ∙ ap (with_cpus _) (loop_rest j h)

    loop_steps : (k j : ℕ) (h : State κ) → steps k (loop j h).1.did ≡ 0
    unfolding steps
    loop_steps k j h = none_row (steps k) refl (steps_append k) (take_interrupt κ up) (one_steps k) j h

    loop_lowered : (k j : ℕ) (h : State κ) → up k ≡ false → interrupts k (loop j h).1.did ≡ 0
    unfolding interrupts
    loop_lowered k j h d = none_row (interrupts k) refl (interrupts_append k) (take_interrupt κ up) (λ i c. one_lowered k i c d) j h

    pub loop_asks : (j : ℕ) (h : State κ) → (loop j h).1.asks ≡ []
    unfolding each
    loop_asks zero h = refl
    loop_asks (suc j) h = rw (loop_asks j h) (choose (λ (r : State κ × Out). r.1.asks ≡ []) (takes κ up j (loop j h).0) _ _ (λ _. refl) (λ _. refl))

    module _ (k : ℕ) (h : State κ) where
      same_cpu : (loop k h).0.cpu k ≡ h.cpu k
      same_cpu = before (λ (c : State κ). c.cpu k) (take_interrupt κ up) k (one_other k) k h (omega arith)

      same_takes : takes κ up k (loop k h).0 ≡ takes κ up k h
      same_takes = ap (λ (c : State κ). c.on k && (up k && κ.isa.lets ((loop k h).0.cpu k))) (loop_rest k h) ∙ ap (λ x. h.on k && (up k && κ.isa.lets x)) same_cpu

      pub loop_cpu : (n : ℕ) → k < n → (loop n h).0.cpu k ≡ pick (takes κ up k h) (κ.isa.enters (h.cpu k)) (h.cpu k)
      loop_cpu n l =
          behind (λ (c : State κ). c.cpu k) (take_interrupt κ up) k (one_other k) n h l ∙ one_own k (loop k h).0
          ∙ ap (λ b. pick b (κ.isa.enters ((loop k h).0.cpu k)) ((loop k h).0.cpu k)) same_takes ∙ ap (λ x. pick (takes κ up k h) (κ.isa.enters x) x) same_cpu

      loop_interrupts : (n : ℕ) → k < n → interrupts k (loop n h).1.did ≡ pick (takes κ up k h) 1 0
      unfolding interrupts
      loop_interrupts n l =
          own_row (interrupts k) refl (interrupts_append k) (take_interrupt κ up) k (one_interrupts k) n h l ∙ own_interrupts k (loop k h).0 ∙ ap (λ b. pick b 1 0) same_takes

  -- the core whose turn it is does nothing, or one instruction
  pub data One (t : ℕ) : List Event → Type 0 where
    none : One t []
    single : One t (step t ∷ [])

  act_one : (h : State κ) (x : Option ℕ) → One h.turn (act_while κ x h).1.did
  act_one h (Some a) = none
  act_one h None = choose (λ (r : State κ × Out). One h.turn r.1.did) (h.on h.turn) _ _ (λ _. go (lacks κ h)) (λ _. none)
    where
      go : (z : Option ℕ) → One h.turn (try κ z h).1.did
      go None = single
      go (Some a) = none

  one_did : (t k : ℕ) {es : List Event} → One t es → (steps k es ≤ 1) × (interrupts k es ≡ 0)
  unfolding steps interrupts
  one_did t k none = (omega arith, refl)
  one_did t k single = (choose (λ i. i ≤ 1) (eqb t k) _ _ (λ _. omega arith) (λ _. omega arith), refl)

  one_allowed : (t : ℕ) (μ : Man κ) {es : List Event} → One t es → Allowed κ.isa μ es
  one_allowed t μ none = tt
  one_allowed t μ single = tt

  -- a whole cycle
  module _ (h : State κ) (xs : List (ℕ × List ℕ)) (up : ℕ → Bool) where
    abbrev pub given : State κ
    given = received κ xs h

    abbrev pub looped : State κ
    looped = (each (take_interrupt κ up) 4 given).0

    abbrev took : List Event
    took = (each (take_interrupt κ up) 4 given).1.did

    abbrev acted : List Event
    acted = (act κ looped).1.did

    cycle_did : (cycle κ h xs up).1.did ≡ took ++ acted
    unfolding cycle
    cycle_did = refl

    pub cycle_steps : (k : ℕ) → steps k (cycle κ h xs up).1.did ≡ steps k acted
    cycle_steps k = rw (cycle_did, steps_append k took acted, loop_steps up k 4 given) (omega arith)

    cycle_interrupts : (k : ℕ) → interrupts k (cycle κ h xs up).1.did ≡ interrupts k took
    cycle_interrupts k = rw (cycle_did, interrupts_append k took acted, (one_did looped.turn k (act_one looped looped.asked)).1) (omega arith)

    pub cycle_single : (k : ℕ) → steps k (cycle κ h xs up).1.did ≤ 1
    cycle_single k = rw (cycle_steps k) (one_did looped.turn k (act_one looped looped.asked)).0

    pub cycle_lowered : (k : ℕ) → up k ≡ false → interrupts k (cycle κ h xs up).1.did ≡ 0
    cycle_lowered k d = cycle_interrupts k ∙ loop_lowered up k 4 given d

    pub cycle_takes : (k : ℕ) → k < 4 → interrupts k (cycle κ h xs up).1.did ≡ pick (takes κ up k given) 1 0
    cycle_takes k l = cycle_interrupts k ∙ loop_interrupts up k given 4 l

  module _ (laws : Laws κ) (up : ℕ → Bool) where
    -- interrupts stand where the manual lets them
    interrupt_lets : (n k : ℕ) → Lets κ.isa (Agrees κ laws) n (take_interrupt κ up k)
    interrupt_lets n k h m w s μ e g = choose (λ (r : State κ × Out). Allowed κ.isa μ r.1.did) (takes κ up k h) _ _
        (λ t. let z = takes_parts up k h t in
        let l = on_there κ laws h m w s μ g k z.0 in
        ((ap κ.isa.lets (cpu_in κ laws h m w s μ g k l) ∙ z.2, on_in κ laws h m w s μ g k l ∙ z.0), tt))
        (λ _. tt)

    act_lets : (n : ℕ) → Lets κ.isa (Agrees κ laws) n (act κ)
    act_lets n h m w s μ e g = one_allowed h.turn μ (act_one h h.asked)

    pub cycle_allowed : (h : State κ) (m : List (List ℕ)) (w : List ℕ) (s : List (ℕ × ℕ)) (μ : Man κ) (gs : List ℕ) → Agrees κ laws h m w s μ → Allowed κ.isa μ (cycle κ h (handed m gs 0 w) up).1.did
    unfolding cycle
    cycle_allowed h m w s μ gs g =
        let n = length μ.cores in
        then_lets κ.isa (Agrees κ laws) n (each (take_interrupt κ up) 4) (act κ) (loop_keeps κ laws n up)
        (each_lets κ.isa (Agrees κ laws) n (take_interrupt κ up) 4 (λ k l. interrupts_keep κ laws n up k) (λ k l. interrupt_lets n k)) (act_lets n)
        (received κ (handed m gs 0 w) h) m (kept gs 0 w) s μ refl (receive_agrees κ laws h m w s μ g gs)
