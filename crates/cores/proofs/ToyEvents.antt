-- What a cycle of the toy chip does: the interrupts that are let and raised, and at most one instruction.
use Rattle.std.proofs.Common.{◌≡◌, ℕ, ◌%◌, ◌<◌, ◌≤◌, Bool, true, false, ◌&&◌, eqb, ltb, ◌≢◌, List, [], ◌∷◌, length, get_or, sym, refl, ap, ◌∙◌, subst, arith, get_or-set_other}
use mathlib.Core.Bool.{false≢true}
use Rattle.cores.specs.Machines.{Event, step, steps, interrupts, Core, Manual, core}
use Rattle.cores.specs.Board.{Out, handed, kept}
use Rattle.cores.specs.Loop.{each}
use Rattle.cores.specs.Owed.{Allowed}
use Rattle.cores.specs.Toy.{does, toy_isa, Phase, idle, waits, holds, dirty, State, core_of, mine, line, gives, may, entered, attends, acts_at, acts, toy_cycle}
use Rattle.cores.proofs.Basics.{by_test, choose, same, differ}
use Rattle.cores.proofs.Machines.{steps_append, interrupts_append}
use Rattle.cores.proofs.Loop.{Lets, each_lets, then_lets, before, own_row, none_row}
use Rattle.cores.proofs.ToyKeeps.{Agrees, finish_did, may_on, attends_keeps, loop_keeps, gives_agrees}

-- what the core whose turn it is does: nothing, or one instruction
pub data One (t : ℕ) : List Event → Type 0 where
  none : One t []
  single : One t (step t ∷ [])

finish_one : (t : ℕ) (es : List Event) → es ≡ step t ∷ [] → One t es
finish_one t es e = subst (One t) (sym e) single

pub act_one : (p : Phase) (h : State) → One h.turn (acts_at p h).1.did
act_one idle h = choose (λ (r : State × Out). One h.turn r.1.did) (mine h).on _ _
    (λ _. choose (λ (r : State × Out). One h.turn r.1.did) (ltb (line (mine h)) h.size) _ _ (λ _. none) (λ _. single)) (λ _. none)
act_one waits h = none
act_one (holds ws) h = finish_one h.turn _ (finish_did ws (does (mine h).cpu (get_or ws ((mine h).cpu.pc % 8) 0)) h)
act_one (dirty a ws) h = none

one_steps : (t k : ℕ) {es : List Event} → One t es → steps k es ≤ 1
unfolding steps
one_steps t k none = omega arith
one_steps t k single = choose (λ i. i ≤ 1) (eqb t k) _ _ (λ _. omega arith) (λ _. omega arith)

one_interrupts : (t k : ℕ) {es : List Event} → One t es → interrupts k es ≡ 0
unfolding interrupts
one_interrupts t k none = refl
one_interrupts t k single = refl

one_allowed : (t : ℕ) (μ : Manual toy_isa) {es : List Event} → One t es → Allowed toy_isa μ es
one_allowed t μ none = tt
one_allowed t μ single = tt

-- of interrupts of core j
module _ (up : ℕ → Bool) where
  attend_steps : (k j : ℕ) (h : State) → steps k (attends up j h).1.did ≡ 0
  unfolding steps
  attend_steps k j h = choose (λ (r : State × Out). steps k r.1.did ≡ 0) (may up j h) _ _ (λ _. refl) (λ _. refl)

  attend_others : (k j : ℕ) (h : State) → j ≢ k → interrupts k (attends up j h).1.did ≡ 0
  unfolding interrupts
  attend_others k j h n = choose (λ (r : State × Out). interrupts k r.1.did ≡ 0) (may up j h) _ _ (λ _. rw (apart j k n)) (λ _. refl)
    where
      apart : (j k : ℕ) → j ≢ k → eqb j k ≡ false
      apart j k n = grind arith

  attend_down : (k j : ℕ) (h : State) → up k ≡ false → interrupts k (attends up j h).1.did ≡ 0
  unfolding interrupts
  attend_down k j h d = by_test (eqb j k)
      (λ e. choose (λ (r : State × Out). interrupts k r.1.did ≡ 0) (may up j h) _ _ (λ t. absurd (false≢true (sym d ∙ ap up (sym (same j k e)) ∙ (may_on up j h t).1))) (λ _. refl))
      (λ e. attend_others k j h (differ j k e))

  attend_up : (k : ℕ) (h : State) → may up k h ≡ true → interrupts k (attends up k h).1.did ≡ 1
  unfolding interrupts
  attend_up k h t = choose (λ (r : State × Out). interrupts k r.1.did ≡ 1) (may up k h) _ _ (λ _. rw (self k)) (λ u. absurd (false≢true (sym u ∙ t)))
    where
      self : (k : ℕ) → eqb k k ≡ true
      self k = grind arith

  attend_core : (k j : ℕ) (h : State) → j ≢ k → core_of (attends up j h).0.cores k ≡ core_of h.cores k
  attend_core k j h n = choose (λ (r : State × Out). core_of r.0.cores k ≡ core_of h.cores k) (may up j h) _ _
      (λ _. get_or-set_other h.cores j k (entered (core_of h.cores j)) (record { cpu = toy_isa.start 0; on = false }) (λ e. n (sym e))) (λ _. refl)

  -- of all of them
  loop_steps : (k n : ℕ) (h : State) → steps k (each (attends up) n h).1.did ≡ 0
  unfolding steps
  loop_steps k n h = none_row (steps k) refl (steps_append k) (attends up) (attend_steps k) n h

  loop_down : (k n : ℕ) (h : State) → up k ≡ false → interrupts k (each (attends up) n h).1.did ≡ 0
  unfolding interrupts
  loop_down k n h d = none_row (interrupts k) refl (interrupts_append k) (attends up) (λ j c. attend_down k j c d) n h

  loop_up : (k n : ℕ) (h : State) → k < n → may up k h ≡ true → interrupts k (each (attends up) n h).1.did ≡ 1
  unfolding interrupts
  loop_up k n h l t =
      own_row (interrupts k) refl (interrupts_append k) (attends up) k (λ j c. attend_others k j c) n h l
      ∙ attend_up k (each (attends up) k h).0
      (ap (λ (x : Core toy_isa). x.on && (up k && x.cpu.ready)) (before (λ c. core_of c.cores k) (attends up) k (λ j c. attend_core k j c) k h (omega arith)) ∙ t)

  -- of a cycle
  module _ (h : State) (xs : List (ℕ × List ℕ)) where
    abbrev pub looped : State
    looped = (each (attends up) 4 (gives xs h).0).0

    pub cycle_steps : (k : ℕ) → steps k (toy_cycle h xs up).1.did ≡ steps k (acts looped).1.did
    cycle_steps k = steps_append k (each (attends up) 4 (gives xs h).0).1.did (acts looped).1.did ∙ rw (loop_steps k 4 (gives xs h).0) (omega arith)

    cycle_interrupts : (k : ℕ) → interrupts k (toy_cycle h xs up).1.did ≡ interrupts k (each (attends up) 4 (gives xs h).0).1.did
    cycle_interrupts k =
        interrupts_append k (each (attends up) 4 (gives xs h).0).1.did (acts looped).1.did ∙ rw (one_interrupts looped.turn k (act_one looped.phase looped)) (omega arith)

    pub cycle_single : (k : ℕ) → steps k (toy_cycle h xs up).1.did ≤ 1
    cycle_single k = rw (cycle_steps k) (one_steps looped.turn k (act_one looped.phase looped))

    pub cycle_lowered : (k : ℕ) → up k ≡ false → interrupts k (toy_cycle h xs up).1.did ≡ 0
    cycle_lowered k d = cycle_interrupts k ∙ loop_down k 4 (gives xs h).0 d

    pub cycle_takes : (k : ℕ) → k < 4 → may up k h ≡ true → interrupts k (toy_cycle h xs up).1.did ≡ 1
    cycle_takes k l t = cycle_interrupts k ∙ loop_up k 4 (gives xs h).0 l t

  -- interrupts stand where the manual lets them
  attends_lets : (n k : ℕ) → Lets toy_isa Agrees n (attends up k)
  unfolding core
  attends_lets n k h m w s μ e g = choose (λ (r : State × Out). Allowed toy_isa μ r.1.did) (may up k h) _ _
      (λ t. let z : core toy_isa μ k ≡ core_of h.cores k = ap (λ (ν : Manual toy_isa). core toy_isa ν k) g.machines in
      ((ap (λ (x : Core toy_isa). x.cpu.ready) z ∙ (may_on up k h t).2, ap (λ (x : Core toy_isa). x.on) z ∙ (may_on up k h t).0), tt))
      (λ _. tt)

  acts_lets : (n : ℕ) → Lets toy_isa Agrees n acts
  acts_lets n h m w s μ e g = one_allowed h.turn μ (act_one h.phase h)

  pub cycle_allowed : (h : State) (m : List (List ℕ)) (w : List ℕ) (s : List (ℕ × ℕ)) (μ : Manual toy_isa) (gs : List ℕ) → Agrees h m w s μ → Allowed toy_isa μ (toy_cycle h (handed m gs 0 w) up).1.did
  cycle_allowed h m w s μ gs g =
      let n = length μ.cores in
      then_lets toy_isa Agrees n (each (attends up) 4) acts (loop_keeps up n)
      (each_lets toy_isa Agrees n (attends up) 4 (λ k l. attends_keeps up n k) (λ k l. attends_lets n k)) (acts_lets n)
      (gives (handed m gs 0 w) h).0 m (kept gs 0 w) s μ refl (gives_agrees h m w s μ gs g)
