-- The turns end: in each cycle the turn passes, after an instruction or from a core that is off, or it stays and its rank falls.
use Rattle.std.proofs.Common.{◌≡◌, ℕ, zero, suc, ◌+◌, ◌-◌, ◌*◌, ◌<◌, ◌≤◌, Bool, true, false, eqb, ◌⊎◌, List, [], ◌∷◌, ◌++◌, get_or, Some, None, Option, sym, refl, ap, ◌∙◌, inl, inr, mul-le-mul_left, arith}
use Rattle.cores.specs.Machines.{Event, step, steps}
use Rattle.cores.specs.Board.{Out, due, later, asked}
use Rattle.cores.specs.Loop.{each}
use Rattle.cores.specs.Owed.{lines, Timely}
use Rattle.cores.proofs.Basics.{choose}
use Rattle.soc.specs.Kind.{Kind, Laws}
use Rattle.soc.specs.Soc.{following, State, lacks, placed, take_interrupt, ask, try, act_while, act}
use Rattle.soc.proofs.Lines.{row, not_none}
use Rattle.soc.proofs.Events.{loop_rest, looped}
use Rattle.soc.proofs.Rank.{still, still_four, still_placed, still_asks, still_loop}

-- how long the first line of a row is still waited for
abbrev pub wait : List (ℕ × ℕ) → ℕ
wait [] = 0
wait (x ∷ xs) = suc x.1

-- the rank of a turn: p lines may still be asked for, and one is waited for so long
abbrev rank_of : ℕ → ℕ → ℕ → ℕ
rank_of l w p = suc (w + (l + 2) * p)

rank_asks : (l w t p q r : ℕ) → t ≤ l → suc p ≡ q → q ≤ r → rank_of l (suc t) p < rank_of l w r
rank_asks l w t p q r a b c = let z : (l + 2) * suc p ≤ (l + 2) * r = mul-le-mul_left (l + 2) (omega arith) in omega arith

rank_waits : (l t p r : ℕ) → p ≤ r → rank_of l (suc t) p < rank_of l (suc (suc t)) r
rank_waits l t p r a = let z : (l + 2) * p ≤ (l + 2) * r = mul-le-mul_left (l + 2) a in omega arith

rank_short : (l w p : ℕ) → w ≤ suc l → p ≤ 4 → rank_of l w p < 64 * (l + 1)
rank_short l w p a b = let z : (l + 2) * p ≤ (l + 2) * 4 = mul-le-mul_left (l + 2) b in omega arith

wait_short : (l : ℕ) (ws : List (ℕ × ℕ)) → Timely l ws → wait ws ≤ suc l
wait_short l [] t = omega arith
wait_short l (x ∷ xs) t = let z : x.1 ≤ l = t.0 in omega arith

-- what is asked for, where the row of lines that wait is that of one line, or of none
row_none : (x : Option ℕ) → [] ≡ row x → x ≡ None
row_none None e = refl
row_none (Some a) e = let z : ◌≡◌ {A = ℕ} 0 1 = cc in absurd (omega arith)

row_one : (b : ℕ) (x : Option ℕ) → b ∷ [] ≡ row x → x ≡ Some b
row_one b None e = let z : ◌≡◌ {A = ℕ} 0 1 = cc in absurd (omega arith)
row_one b (Some a) e = let z : a ≡ b = cc in ap Some z

row_more : {P : Type 0} (a b : ℕ) (cs : List ℕ) (x : Option ℕ) → a ∷ b ∷ cs ≡ row x → P
row_more a b cs None e = let z : ◌≡◌ {A = ℕ} 0 1 = cc in absurd (omega arith)
row_more a b cs (Some c) e = let z : ◌≡◌ {A = ℕ} 0 1 = cc in absurd (omega arith)

module _ (κ : Kind) where
  abbrev pub rank : ℕ → State κ → List (ℕ × ℕ) → ℕ
  rank l h ws = rank_of l (wait ws) (still κ h)

  pub short : (l : ℕ) (h : State κ) (ws : List (ℕ × ℕ)) → Timely l ws → rank l h ws < 64 * (l + 1)
  short l h ws t = rank_short l (wait ws) (still κ h) (wait_short l ws t) (still_four κ h)

  -- from h with ws waited for to g with vs waited for, where es was done
  abbrev pub Moves : ℕ → State κ → List (ℕ × ℕ) → State κ → List (ℕ × ℕ) → List Event → Type 0
  Moves l h ws g vs es =
      ((g.turn ≡ following h.count h.turn) × ((h.on h.turn ≡ false) ⊎ (1 ≤ steps h.turn es)))
      ⊎ ((g.turn ≡ h.turn) × (rank l g vs < rank l h ws))

  -- what g does, for which nothing is waited for, where h was before
  module _ (l : ℕ) (late : ℕ → ℕ) (soon : (a : ℕ) → late a ≤ l) (h : State κ) (ws : List (ℕ × ℕ)) (g : State κ)
      (turns : g.turn ≡ h.turn) (counts : g.count ≡ h.count) (ons : g.on ≡ h.on) (stills : still κ g ≤ still κ h) where
    abbrev Outcome : State κ × Out → Type 0
    Outcome r = Moves l h ws r.0 (asked late r.1.asks) r.1.did

    did_one : 1 ≤ steps h.turn (step g.turn ∷ [])
    unfolding steps
    did_one = rw (turns, self h.turn) (omega arith)
      where
        self : (k : ℕ) → eqb k k ≡ true
        self k = grind arith

    passes : following g.count g.turn ≡ following h.count h.turn
    passes = rw (turns, counts)

    try_moves : (y : Option ℕ) → g.asked ≡ None → lacks κ g ≡ y → Outcome (try κ y g)
    unfolding asked
    try_moves None q e = inl (passes, inr did_one)
    try_moves (Some a) q e = inr (turns, rank_asks l (wait ws) (late a) (still κ (ask κ a g).0) (still κ g) (still κ h) (soon a) (still_asks κ g a q e) stills)

    while_moves : (x : Option ℕ) → g.asked ≡ x → g.asked ≡ None → Outcome (act_while κ x g)
    while_moves (Some a) e q = not_none a (sym e ∙ q)
    while_moves None e q = choose Outcome (g.on g.turn) _ _ (λ _. try_moves (lacks κ g) q refl)
        (λ o. inl (passes, inl (ap (λ (f : ℕ → Bool). f h.turn) (sym ons) ∙ ap g.on (sym turns) ∙ o)))

    act_moves : g.asked ≡ None → Outcome (act κ g)
    act_moves q = while_moves g.asked refl q

  -- interrupts leave all but registers
  module _ (up : ℕ → Bool) (h : State κ) where
    abbrev after : State κ
    after = (each (take_interrupt κ up) 4 h).0

    after_turn : after.turn ≡ h.turn
    after_turn = ap (λ (c : State κ). c.turn) (loop_rest κ up 4 h)

    after_count : after.count ≡ h.count
    after_count = ap (λ (c : State κ). c.count) (loop_rest κ up 4 h)

    after_on : after.on ≡ h.on
    after_on = ap (λ (c : State κ). c.on) (loop_rest κ up 4 h)

    after_asked : after.asked ≡ h.asked
    after_asked = ap (λ (c : State κ). c.asked) (loop_rest κ up 4 h)

  module _ (laws : Laws κ) (l : ℕ) (up : ℕ → Bool) (late : ℕ → ℕ) (soon : (a : ℕ) → late a ≤ l) (h : State κ) (four : h.turn < 4) where
    -- nothing is waited for once the lines that come have made g of h
    come_moves : (ws : List (ℕ × ℕ)) (g : State κ) → g.turn ≡ h.turn → g.count ≡ h.count → g.on ≡ h.on → still κ g ≤ still κ h → g.asked ≡ None →
        Moves l h ws (act κ (after up g)).0 (asked late (act κ (after up g)).1.asks) (act κ (after up g)).1.did
    come_moves ws g a b d p q = act_moves l late soon h ws (after up g) (after_turn up g ∙ a) (after_count up g ∙ b) (after_on up g ∙ d)
        (let z : still κ (after up g) ≤ still κ g = still_loop κ laws up 4 g (rw a four) in omega arith) (after_asked up g ∙ q)

    -- a line is still waited for
    stay_moves : (a t : ℕ) (g : State κ) (x : Option ℕ) → x ≡ Some a → g.turn ≡ h.turn → still κ g ≤ still κ h → (ws : List (ℕ × ℕ)) → wait ws ≡ suc (suc t) →
        Moves l h ws (act_while κ x g).0 ((a, t) ∷ asked late (act_while κ x g).1.asks) (act_while κ x g).1.did
    stay_moves a t g None e u p ws i = not_none a (sym e)
    stay_moves a t g (Some b) e u p ws i = inr (u, rw i (rank_waits l t (still κ g) (still κ h) p))

    abbrev Result : List (List ℕ) → List (ℕ × ℕ) → Type 0
    Result m ws =
        let g : State κ = looped κ h (due m ws) up in
        Moves l h ws (act κ g).0 (later ws ++ asked late (act κ g).1.asks) (act κ g).1.did

    one_waits : (m : List (List ℕ)) (a t : ℕ) → h.asked ≡ Some a → Result m ((a, t) ∷ [])
    unfolding due later
    one_waits m a zero e =
        come_moves ((a, 0) ∷ []) (placed κ (record { number = a; words = get_or m a [] }) h) refl refl refl (still_placed κ h (record { number = a; words = get_or m a [] }) e) refl
    one_waits m a (suc t) e = rw (not_zero t, less t)
        (stay_moves a t (after up h) (after up h).asked (after_asked up h ∙ e) (after_turn up h) (still_loop κ laws up 4 h four) ((a, suc t) ∷ []) refl)
      where
        less : (t : ℕ) → suc t - 1 ≡ t
        less t = omega arith

        not_zero : (t : ℕ) → eqb (suc t) 0 ≡ false
        not_zero t = grind arith

    pub moves : (m : List (List ℕ)) (ws : List (ℕ × ℕ)) → lines ws ≡ row h.asked → Result m ws
    unfolding due later lines
    moves m [] e = come_moves [] h refl refl refl (omega arith) (row_none h.asked e)
    moves m (w ∷ []) e = one_waits m w.0 w.1 (row_one w.0 h.asked e)
    moves m (w ∷ v ∷ vs) e = row_more w.0 v.0 (lines vs) h.asked e
