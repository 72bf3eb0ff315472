-- The turns of the toy chip end: each cycle passes the turn, after an instruction or from a core that is off, or brings its end nearer.
use Rattle.std.proofs.Common.{◌≡◌, ℕ, zero, suc, ◌+◌, ◌*◌, ◌<◌, ◌≤◌, Bool, false, eqb, ltb, ◌≢◌, ◌⊎◌, List, [], ◌∷◌, ◌++◌, length, get_or, sym, refl, ap, subst, inl, inr, arith, length-set}
use Rattle.rv32.specs.Did.{Did, goes, stores, says, stops}
use Rattle.cores.specs.Machines.{Event, step, steps, Core}
use Rattle.cores.specs.Board.{Out, due, later, asked, Steady, steady_cycle}
use Rattle.cores.specs.Loop.{each}
use Rattle.cores.specs.Owed.{following, lines, Timely, steady_did}
use Rattle.cores.specs.Toy.{Registers, toy_isa, Phase, idle, waits, holds, dirty, State, core_of, mine, line, received, gives, may, entered, attends, finishes, acts_at, acts, toy_chip}
use Rattle.cores.proofs.Basics.{choose, by_test, differ}
use Rattle.cores.proofs.Loop.{each_same}
use Rattle.cores.proofs.ToyKeeps.{row, chip_at, finish_did, may_on, entered_core}
use Rattle.cores.proofs.ToyEvents.{looped, cycle_steps}

-- how many cycles after the next the first line of a row comes
abbrev left : List (ℕ × ℕ) → ℕ
left [] = 0
left (w ∷ ws) = w.1

-- the turn's rank
abbrev rank_at : ℕ → Phase → List (ℕ × ℕ) → ℕ
rank_at l idle ws = l + 3
rank_at l waits ws = left ws + 1
rank_at l (holds v) ws = 0
rank_at l (dirty a v) ws = l + 4

abbrev pub rank : ℕ → Steady toy_chip → ℕ
rank l s = rank_at l s.chip.phase s.waiting

short_at : (l : ℕ) (p : Phase) (ws : List (ℕ × ℕ)) → Timely l ws → rank_at l p ws < 64 * (l + 1)
short_at l idle ws t = omega arith
short_at l waits [] t = omega arith
short_at l waits (w ∷ ws) t = omega (arith, t.0)
short_at l (holds v) ws t = omega arith
short_at l (dirty a v) ws t = omega arith

pub short : (l : ℕ) (s : Steady toy_chip) → Timely l s.waiting → rank l s < 64 * (l + 1)
short l s t = short_at l s.chip.phase s.waiting t

-- what is owed of a cycle: of n cores, t had the turn, on or not, es was done, u has it now, the rank was ρ and is σ
abbrev Moves : ℕ → ℕ → Bool → List Event → ℕ → ℕ → ℕ → Type 0
Moves n t on es u ρ σ = ((u ≡ following n t) × ((on ≡ false) ⊎ (1 ≤ steps t es))) ⊎ ((u ≡ t) × (σ < ρ))

did_one : (t : ℕ) → 1 ≤ steps t (step t ∷ [])
unfolding steps
did_one t = choose (λ i. 1 ≤ i) (eqb t t) _ _ (λ _. omega arith) (λ e. absurd (differ t t e refl))

finish_turn : (ws : List ℕ) (d : Did Registers) (h : State) → (finishes ws d h).0.turn ≡ following (length h.cores) h.turn
finish_turn ws (goes c) h = refl
finish_turn ws (stores a v c) h = refl
finish_turn ws (says x c) h = refl
finish_turn ws stops h = refl

finish_moves : (on : Bool) (ws : List ℕ) (d : Did Registers) (h : State) (ρ σ : ℕ) → Moves (length h.cores) h.turn on (finishes ws d h).1.did (finishes ws d h).0.turn ρ σ
finish_moves on ws d h ρ σ = inl (finish_turn ws d h, inr (rw (finish_did ws d h) (did_one h.turn)))

-- rows of no line, and of one
lines_none : (ws : List (ℕ × ℕ)) → lines ws ≡ [] → ws ≡ []
unfolding lines
lines_none [] e = refl
lines_none (w ∷ ws) e = absurd (omega (arith, ap length e))

lines_one : (ws : List (ℕ × ℕ)) (a : ℕ) → lines ws ≡ a ∷ [] → ws ≡ (a, left ws) ∷ []
unfolding lines
lines_one [] a e = absurd (omega (arith, ap length e))
lines_one (w ∷ []) a e = let z : w.0 ≡ a = cc in ap {B = List (ℕ × ℕ)} (λ i. (i, w.1) ∷ []) z
lines_one (w ∷ v ∷ ws) a e = absurd (omega (arith, ap length e))

module _ (l : ℕ) (late : ℕ → ℕ) (soon : (a : ℕ) → late a ≤ l) (m : List (List ℕ)) (n t : ℕ) (cs : List (Core toy_isa)) where
  abbrev Outcome : Phase → List (ℕ × ℕ) → State × Out → Type 0
  Outcome p ws r = Moves (length cs) t (core_of cs t).on r.1.did r.0.turn (rank_at l p ws) (rank_at l r.0.phase (later ws ++ asked late r.1.asks))

  one_waits : (a r : ℕ) → Outcome waits ((a, r) ∷ []) (acts_at (received waits (due m ((a, r) ∷ []))) (chip_at cs n t (received waits (due m ((a, r) ∷ [])))))
  unfolding due later asked
  one_waits a r = by_test (eqb r 0) (λ e. rw e (finish_moves _ _ _ (chip_at cs n t (holds (get_or m a []))) _ _)) (λ e. let z : r ≢ 0 = differ r 0 e in rw e (inr (refl, omega arith)))

  outcome : (p : Phase) (ws : List (ℕ × ℕ)) (x : Core toy_isa) → lines ws ≡ row p x → Outcome p ws (acts_at (received p (due m ws)) (chip_at cs n t (received p (due m ws))))
  unfolding later asked
  outcome idle ws x e = subst (λ (v : List (ℕ × ℕ)). Outcome idle v (acts_at idle (chip_at cs n t idle))) (sym (lines_none ws e))
      (choose (Outcome idle []) (core_of cs t).on _ _
      (λ o. choose (Outcome idle []) (ltb (line (core_of cs t)) n) _ _ (λ _. inr (refl, omega (arith, soon (line (core_of cs t))))) (λ _. inl (refl, inr (did_one t))))
      (λ o. inl (refl, inl o)))
  outcome waits ws x e = subst (λ (v : List (ℕ × ℕ)). Outcome waits v (acts_at (received waits (due m v)) (chip_at cs n t (received waits (due m v))))) (sym (lines_one ws (line x) e)) (one_waits (line x) (left ws))
  outcome (holds v) ws x e = finish_moves _ v _ (chip_at cs n t (holds v)) _ _
  outcome (dirty a v) ws x e = inr (refl, omega arith)

-- interrupts leave all but the registers
module _ (up : ℕ → Bool) where
  abbrev rest : State → State
  rest h = chip_at [] h.size h.turn h.phase

  pub loop_rest : (j : ℕ) (h : State) → (each (attends up) j h).0 ≡ chip_at (each (attends up) j h).0.cores h.size h.turn h.phase
  loop_rest j h = ap (λ (v : State). chip_at (each (attends up) j h).0.cores v.size v.turn v.phase)
      (each_same rest (attends up) (λ k c. choose (λ (r : State × Out). rest r.0 ≡ rest c) (may up k c) _ _ (λ _. refl) (λ _. refl)) j h)

  loop_many : (j : ℕ) (h : State) → length (each (attends up) j h).0.cores ≡ length h.cores
  loop_many = each_same (λ h. length h.cores) (attends up)
      (λ k c. choose (λ (r : State × Out). length r.0.cores ≡ length c.cores) (may up k c) _ _ (λ _. length-set c.cores k (entered (core_of c.cores k))) (λ _. refl))

  pub loop_on : (i j : ℕ) (h : State) → (core_of (each (attends up) j h).0.cores i).on ≡ (core_of h.cores i).on
  loop_on i = each_same (λ h. (core_of h.cores i).on) (attends up)
      (λ k c. choose (λ (r : State × Out). (core_of r.0.cores i).on ≡ (core_of c.cores i).on) (may up k c) _ _ (λ t. (entered_core c.cores k i (may_on up k c t).0).0) (λ _. refl))

  loop_asks : (j : ℕ) (h : State) → (each (attends up) j h).1.asks ≡ []
  unfolding each
  loop_asks zero h = refl
  loop_asks (suc j) h = rw (loop_asks j h) (choose (λ (r : State × Out). r.1.asks ≡ []) (may up j (each (attends up) j h).0) _ _ (λ _. refl) (λ _. refl))

  module _ (l : ℕ) (late : ℕ → ℕ) (soon : (a : ℕ) → late a ≤ l) (s : Steady toy_chip) where
    abbrev h : State
    h = s.chip

    abbrev g : State
    g = looped up h (due s.memory s.waiting)

    g_is : g ≡ chip_at g.cores h.size h.turn (received h.phase (due s.memory s.waiting))
    g_is = loop_rest 4 (gives (due s.memory s.waiting) h).0

    g_moves : lines s.waiting ≡ row h.phase (mine h) →
        Moves (length g.cores) h.turn (core_of g.cores h.turn).on (acts g).1.did (acts g).0.turn (rank l s) (rank_at l (acts g).0.phase (later s.waiting ++ asked late (acts g).1.asks))
    g_moves e = subst (λ (v : State). Moves (length g.cores) h.turn (core_of g.cores h.turn).on (acts v).1.did (acts v).0.turn (rank l s) (rank_at l (acts v).0.phase (later s.waiting ++ asked late (acts v).1.asks)))
        (sym g_is) (outcome l late soon s.memory h.size h.turn g.cores h.phase s.waiting (mine h) e)

    -- the turn passes, or it stays and its rank falls
    pub moves : lines s.waiting ≡ row h.phase (mine h) →
        Moves (length h.cores) h.turn (mine h).on (steady_did toy_chip up s) (steady_cycle toy_chip up late s).chip.turn (rank l s) (rank l (steady_cycle toy_chip up late s))
    unfolding steady_cycle
    moves e =
        let xs = due s.memory s.waiting in
        rw (← (loop_many 4 (gives xs h).0), ← (loop_on h.turn 4 (gives xs h).0), cycle_steps up h xs h.turn, loop_asks 4 (gives xs h).0) (g_moves e)
