-- The interrupts of a cycle stand where the manual lets them; and the lines that a board gives are those of its memory.
use Rattle.std.proofs.Common.{◌≡◌, ℕ, zero, suc, Bool, eqb, List, [], ◌∷◌, ◌++◌, refl, subst}
use Rattle.cores.specs.Board.{with_lines, among, handed, due}
use Rattle.cores.specs.Loop.{Step, then, each}
use Rattle.cores.specs.Machines.{Event, Manual, events}
use Rattle.cores.specs.Owed.{Allowed}
use Rattle.cores.proofs.Basics.{choose}
use Rattle.cores.proofs.Machines.{allowed_append}
use Rattle.cached.specs.Soc.{State, deliver, take_due, answer_probe, act, take_all, answer_all, cycle}
use Rattle.cached.specs.Kind.{Kind, Laws}
use Rattle.cached.proofs.Steps.{True}
use Rattle.cached.proofs.CycleAgrees.{open_keeps, take_one_keeps, answer_one_keeps, act_one_keeps}
use Rattle.cached.proofs.Agrees.{Agrees, After, each_keeps, then_keeps, then_after}
use Rattle.cached.proofs.Lists.{at_line}
use Rattle.cached.proofs.Outs.{Emits, quietly, did, took, act_emits, takings_mute, answerings_mute, body_did}

pub handed_true : (m : List (List ℕ)) (gs : List ℕ) (i : ℕ) (ls : List ℕ) → True (at_line m) (handed m gs i ls)
unfolding handed
handed_true m gs i [] = tt
handed_true m gs i (a ∷ ls) = choose (True (at_line m)) (among i gs) _ _ (λ e. (refl, handed_true m gs (suc i) ls)) (λ e. handed_true m gs (suc i) ls)

pub due_true : (m : List (List ℕ)) (ws : List (ℕ × ℕ)) → True (at_line m) (due m ws)
unfolding due
due_true m [] = tt
due_true m (x ∷ ws) = choose (True (at_line m)) (eqb x.1 0) _ _ (λ e. (refl, due_true m ws)) (λ e. due_true m ws)

module _ (κ : Kind) (laws : Laws κ) where
  -- up to where cores act nothing of the manual is done
  pre : List (ℕ × List ℕ) → Step (State κ)
  pre xs = then (deliver κ xs) (then (take_all κ) (answer_all κ))

  pre_after : (c : State κ) (m : List (List ℕ)) (s : List (ℕ × ℕ)) (μ : Manual κ.isa) (xs : List (ℕ × List ℕ)) → True (at_line m) xs → Agrees κ laws c m s μ → After κ laws (pre xs c) m s μ
  unfolding pre
  pre_after c m s μ xs t g = then_after κ laws (deliver κ xs) (then (take_all κ) (answer_all κ)) c m s μ (open_keeps κ laws c m s μ xs t g)
      (then_keeps κ laws (take_all κ) (answer_all κ)
      (each_keeps κ laws (take_due κ) 4 (λ k l c m s μ g. take_one_keeps κ laws c m s μ g k))
      (each_keeps κ laws (answer_probe κ) 4 (λ k l c m s μ g. answer_one_keeps κ laws c m s μ g k)))

  pre_did : (xs : List (ℕ × List ℕ)) (c : State κ) → (pre xs c).1.did ≡ []
  unfolding pre
  pre_did xs c = rw ((takings_mute κ (deliver κ xs c).0).did, (answerings_mute κ (take_all κ (deliver κ xs c).0).0).did)

  emits_allowed : (k : ℕ) (u : Bool) (c : State κ) (m : List (List ℕ)) (s : List (ℕ × ℕ)) (μ : Manual κ.isa) (es : List Event) → Agrees κ laws c m s μ →
      Emits κ k u c es → Allowed κ.isa μ es
  emits_allowed k u c m s μ _ g quietly = tt
  emits_allowed k u c m s μ _ g did = tt
  emits_allowed k u c m s μ _ g (took x y z l) = (rw (g.cores k l) (y, z), tt)

  each_allowed : (up : ℕ → Bool) (n : ℕ) (c : State κ) (m : List (List ℕ)) (s : List (ℕ × ℕ)) (μ : Manual κ.isa) → Agrees κ laws c m s μ →
      Allowed κ.isa μ (each (act κ up) n c).1.did
  unfolding each events
  each_allowed up zero c m s μ g = tt
  each_allowed up (suc n) c m s μ g =
      let e = each (act κ up) n c in
      let a = each_keeps κ laws (act κ up) n (λ k l c m s μ g. act_one_keeps κ laws c m s μ g up k) c m s μ g in
      allowed_append κ.isa μ e.1.did (act κ up n e.0).1.did (each_allowed up n c m s μ g)
      (emits_allowed n (up n) e.0 _ _ (events κ.isa μ e.1.did) _ a (act_emits κ up n e.0))

  pub cycle_allowed : (c : State κ) (m : List (List ℕ)) (s : List (ℕ × ℕ)) (μ : Manual κ.isa) (xs : List (ℕ × List ℕ)) (up : ℕ → Bool) → True (at_line m) xs → Agrees κ laws c m s μ →
      Allowed κ.isa μ (cycle κ c xs up).1.did
  unfolding cycle pre events
  cycle_allowed c m s μ xs up t g = rw (body_did κ xs up c) (each_allowed up 4 (pre xs c).0 _ _ μ
      (subst (λ (es : List Event). Agrees κ laws (pre xs c).0 (with_lines m (pre xs c).1.writes) (s ++ (pre xs c).1.says) (events κ.isa μ es)) (pre_did xs c) (pre_after c m s μ xs t g)))
