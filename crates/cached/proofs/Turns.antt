-- The turns end: in each cycle the turn passes, after an instruction or from a core that is off, or it stays and its rank falls.
use Rattle.std.proofs.Common.{◌≡◌, ℕ, zero, suc, ◌+◌, ◌*◌, ◌<◌, ◌≤◌, Bool, true, false, not, ◌||◌, eqb, ◌⊎◌, List, [], ◌∷◌, ◌++◌, length, sym, refl, ap, ◌∙◌, subst, inl, inr, mul-le-mul_left, arith}
use Rattle.cores.specs.Board.{due, later, asked, Steady, steady_cycle}
use Rattle.cores.specs.Loop.{each}
use Rattle.cores.specs.Machines.{pick, Event, step, interrupt, steps, Core, Manual, core}
use Rattle.cores.specs.Owed.{following, lines, Timely, board_of, steady_did, ByTurns}
use Rattle.cores.specs.Promise.{once}
use Rattle.cores.specs.Put.{put}
use Rattle.cores.proofs.Basics.{choose, differ}
use Rattle.cached.specs.Soc.{State, around, stepped, act, act_all, start_next, body, turn_after, cycle, chip}
use Rattle.directory.specs.Directory.{Request, idle, wants, queued, probing, fetching, fetches}
use Rattle.cached.specs.Kind.{Kind, Laws, code}
use Rattle.link.specs.Messages.{Grant, is_quiet, Probe, is_unasked}
use Rattle.cached.specs.Rank.{further, waits, fetched, any_stuck, number, until_taken, wait, remaining}
use Rattle.cache.specs.Slots.{seek}
use Rattle.cached.proofs.Acting.{stepped_append, put_other}
use Rattle.cached.proofs.Agrees.{Agrees}
use Rattle.cached.proofs.Base.{at_put, clash, or_left, or_right}
use Rattle.cached.proofs.Cases.{act_cases}
use Rattle.cached.proofs.Events.{due_true}
use Rattle.cached.proofs.Facts.{fetch_small, far_three}
use Rattle.cached.proofs.Falls.{falls}
use Rattle.cached.proofs.Fetching.{fetched_waits}
use Rattle.cached.proofs.Kept.{Inv, begun, count_end, turn_end, on_before, off_stays}
use Rattle.cached.proofs.Lists.{at_line}
use Rattle.cached.proofs.Outs.{before_acts, body_did, body_asks}
use Rattle.cached.proofs.Phases.{Lively}
use Rattle.cached.proofs.Row.{later_left, late_next, late_asked, left_late}
use Rattle.cached.proofs.Steps.{True}

-- a turn is short
turn_few : (l w t x : ℕ) → w ≤ 2 * l + 6 → t ≤ 3 → x ≤ 1 → w + (2 * l + 6) * t + x * (3 * (2 * l + 6) + 1) < 64 * (l + 1)
turn_few l w t x h i j = let z : (2 * l + 6) * t ≤ (2 * l + 6) * 3 = mul-le-mul_left (2 * l + 6) i in let k = small x j in omega arith
  where
    small : (x : ℕ) → x ≤ 1 → x * (3 * (2 * l + 6) + 1) ≤ 3 * (2 * l + 6) + 1
    small zero j = omega arith
    small (suc zero) j = omega arith
    small (suc (suc x)) j = absurd (omega arith)

number_one : (b : Bool) → number b ≤ 1
number_one true = omega arith
number_one false = omega arith

tau_few : (l : ℕ) (w : List (ℕ × ℕ)) (r : ℕ → Request) (g : ℕ → Grant) (t : ℕ → Probe) (f : ℕ) (q : Request) → Timely l w → until_taken l w r g t f q ≤ 2 * l + 6
tau_few l w r g t f idle h = let x = number_one (not (is_quiet (g f))) in let y = number_one (not (is_unasked (t f))) in omega arith
tau_few l w r g t f (wants a o p fetching) h = let z = left_late l a w h in omega arith
tau_few l w r g t f (wants a o p probing) h = choose (λ (n : ℕ). n + 2 ≤ 2 * l + 6) (any_stuck t g) 2 1 (λ e. omega arith) (λ e. omega arith)
tau_few l w r g t f (wants a o p queued) h = choose (λ (n : ℕ). l + 4 + n ≤ 2 * l + 6) (fetched r a) _ _ (λ e. let z = left_late l a w h in omega arith)
    (λ e. choose (λ (n : ℕ). l + 4 + n ≤ 2 * l + 6) (any_stuck t g) 2 1 (λ e. omega arith) (λ e. omega arith))

-- whose turn is next, as it is owed
around_same : (n t : ℕ) → t < n → around n (suc t) ≡ following n t
around_same n t l = grind arith

-- an instruction of core k that is among the events is counted
counted : (k : ℕ) (es : List Event) → stepped k es ≡ true → 1 ≤ steps k es
unfolding steps stepped
counted k [] e = clash e refl
counted k (step j ∷ es) e = go (eqb j k) refl e (counted k es)
  where
    go : (z : Bool) → eqb j k ≡ z → (z || stepped k es) ≡ true → (stepped k es ≡ true → 1 ≤ steps k es) → 1 ≤ pick z (suc (steps k es)) (steps k es)
    go true i e ih = omega arith
    go false i e ih = ih e
counted k (interrupt j ∷ es) e = counted k es e

-- a line of the row waits
once_waits : (a : ℕ) (ws : List (ℕ × ℕ)) → 1 ≤ once a (lines ws) → waits a ws ≡ true
unfolding once lines waits
once_waits a [] h = absurd (omega arith)
once_waits a (w ∷ ws) h = go (once_waits a ws) h
  where
    go : (1 ≤ once a (lines ws) → waits a ws ≡ true) → 1 ≤ pick (eqb a w.0) (suc (once a (lines ws))) (once a (lines ws)) → (eqb w.0 a || waits a ws) ≡ true
    go ih h = grind arith

-- a request's core is one of four
stepped_one : (i k : ℕ) → eqb i k ≡ true → stepped i (step k ∷ []) ≡ true
unfolding stepped
stepped_one i k e = grind arith

module _ (κ : Kind) where
  -- a core stops only by an instruction
  act_stops : (up : ℕ → Bool) (k i : ℕ) (c : State κ) → c.on i ≡ true → ((act κ up k c).0.on i ≡ true) ⊎ (stepped i (act κ up k c).1.did ≡ true)
  act_stops up k i c o = act_cases κ up k c (λ r. (r.0.on i ≡ true) ⊎ (stepped i r.1.did ≡ true)) (record {
    none = λ h. inl o;
    interrupts = λ l p w h. inl (at_put (λ z. z ≡ true) c.on k true i (λ _. refl) (λ _. o));
    does = λ p h. does _ (eqb i k) refl;
    sends = λ a u p n s j q. inl o;
    sweeping = λ q x p h e. inl o;
    swept = λ x p h. inl o;
  })
    where
      does : (b : Bool) (z : Bool) → eqb i k ≡ z → (put c.on k b i ≡ true) ⊎ (stepped i (step k ∷ []) ≡ true)
      does b true e = inr (stepped_one i k e)
      does b false e = inl (put_other c.on k _ i (differ i k e) ∙ o)

  acts_stop : (up : ℕ → Bool) (i n : ℕ) (c : State κ) → c.on i ≡ true → ((each (act κ up) n c).0.on i ≡ true) ⊎ (stepped i (each (act κ up) n c).1.did ≡ true)
  unfolding each
  acts_stop up i zero c o = inl o
  acts_stop up i (suc n) c o =
      let d = each (act κ up) n c in
      elim (acts_stop up i n c o) [
        | inl z ↦ elim (act_stops up n i d.0 z) [ inl y ↦ inl y | inr y ↦ inr (stepped_append i d.1.did _ ∙ or_right (stepped i d.1.did) _ y) ]
        | inr z ↦ inr (stepped_append i d.1.did _ ∙ or_left (stepped i d.1.did) _ z)
      ]

  abbrev pub rank : ℕ → State κ → List (ℕ × ℕ) → ℕ
  rank l c w = remaining κ l w c c.hints.turn

  short : (l : ℕ) (c : State κ) (w : List (ℕ × ℕ)) → Timely l w → rank l c w < 64 * (l + 1)
  short l c w e =
      let t : ℕ = c.hints.turn in
      turn_few l (wait κ l w c t) (further κ c t) (number (κ.isa.lets (c.cpu t))) (tau_few l w c.lines.request c.lines.coming c.hints.probe t (c.lines.request t) e)
      (choose (λ (m : ℕ). m ≤ 3) (is_unasked (c.hints.probe t)) _ _ (λ i. far_three (seek c.lines.slot t (code κ c.size (c.cpu t))) _ _ _) (λ i. omega arith)) (number_one (κ.isa.lets (c.cpu t)))

module _ (κ : Kind) (laws : Laws κ) where
  -- a cycle in which the lines xs come
  module _ (c : State κ) (m : List (List ℕ)) (s : List (ℕ × ℕ)) (μ : Manual κ.isa) (g : Agrees κ laws c m s μ) (v : Lively κ laws c)
      (xs : List (ℕ × List ℕ)) (true-lines : True (at_line m) xs) (up : ℕ → Bool) (there : c.hints.turn < c.count) where
    abbrev f : ℕ
    f = c.hints.turn

    abbrev d : State κ
    d = (body κ xs up c).0

    abbrev es : List Event
    es = (body κ xs up c).1.did

    -- what core f did while cores acted was done in the cycle
    pub did_body : stepped f (act_all κ up (before_acts κ xs c)).1.did ≡ true → stepped f es ≡ true
    did_body e = ap (stepped f) (body_did κ xs up c) ∙ e

    -- a core that was on and is off has done an instruction
    stopped : c.on f ≡ true → d.on f ≡ false → stepped f es ≡ true
    stopped o n = elim (acts_stop κ up f 4 (before_acts κ xs c) (ap (λ (x : ℕ → Bool). x f) (on_before κ laws c m s μ g v xs true-lines up) ∙ o)) [
      | inl z ↦ clash (ap (λ (x : ℕ → Bool). x f) (begun κ laws c m s μ g v xs true-lines up).on ∙ z) n
      | inr z ↦ did_body z
    ]

    -- the turn passes to the next core, from one that is off or has done an instruction; or it stays with a core that goes and has done none
    abbrev Moves : ℕ → Type 0
    Moves t = ((t ≡ following c.count f) × ((c.on f ≡ false) ⊎ (1 ≤ steps f es))) ⊎ ((t ≡ f) × (stepped f es ≡ false) × (d.on f ≡ true))

    passing : (stepped f es || not (d.on f)) ≡ true → Moves (around c.count (suc f))
    passing e = inl (around_same c.count f there, go (c.on f) refl)
      where
        either : (x y : Bool) → (x || not y) ≡ true → (x ≡ true) ⊎ (y ≡ false)
        either true y e = inl refl
        either false true e = clash e refl
        either false false e = inr refl

        go : (o : Bool) → c.on f ≡ o → (o ≡ false) ⊎ (1 ≤ steps f es)
        go false o = inl refl
        go true o = inr (counted f es (elim (either (stepped f es) (d.on f) e) [ inl y ↦ y | inr y ↦ stopped o y ]))

    staying : (stepped f es || not (d.on f)) ≡ false → Moves f
    staying e = let z = neither (stepped f es) (d.on f) e in inr (refl, z.0, z.1)
      where
        neither : (x y : Bool) → (x || not y) ≡ false → (x ≡ false) × (y ≡ true)
        neither x y e = (grind arith, grind arith)

    pub turn_moves : Moves (turn_after κ es d)
    turn_moves = go (stepped f es || not (d.on f)) refl
      where
        turn_of : d.hints.turn ≡ f
        turn_of = turn_end κ laws c m s μ g v xs true-lines up

        count_of : d.count ≡ c.count
        count_of = count_end κ laws c m s μ g v xs true-lines up

        go : (z : Bool) → (stepped f es || not (d.on f)) ≡ z → Moves (turn_after κ es d)
        go true e = subst Moves (sym (rw (turn_of, e, count_of))) (passing e)
        go false e = subst Moves (sym (rw (turn_of, e))) (staying e)

  -- a cycle of a steady board
  module _ (l : ℕ) (s : Steady (chip κ)) (μ : Manual κ.isa) (h : Inv κ laws s.chip (board_of (chip κ) s) μ) (timely : Timely l s.waiting)
      (up : ℕ → Bool) (late : ℕ → ℕ) (soon : (a : ℕ) → late a ≤ l) where
    abbrev c₀ : State κ
    c₀ = s.chip

    abbrev given_now : List (ℕ × List ℕ)
    given_now = due s.memory s.waiting

    abbrev t : ℕ
    t = c₀.hints.turn

    abbrev c₁ : State κ
    c₁ = (body κ given_now up c₀).0

    abbrev asked_now : List ℕ
    asked_now = (start_next κ (act_all κ up (before_acts κ given_now c₀)).0).1.asks

    -- the row after the cycle
    abbrev row : List (ℕ × ℕ)
    row = later s.waiting ++ asked late asked_now

    abbrev s' : Steady (chip κ)
    s' = steady_cycle (chip κ) up late s

    late_end : Timely l row
    late_end = late_next l s.waiting (asked late asked_now) timely (late_asked l late asked_now soon)

    waiting : (i a : ℕ) → fetches (c₀.lines.request i) a ≡ true → waits a s.waiting ≡ true
    waiting i a e = once_waits a s.waiting (fetched_waits c₀.lines.request (lines s.waiting) i a
        (fetch_small (c₀.lines.request i) i a c₀.size c₀.lines.entry c₀.lines.coming (h.agrees.safe.tidy.fair i) e) e h.waits)

    machine_on : (core κ.isa μ t).on ≡ c₀.on t
    machine_on = ap (λ (x : Core κ.isa). x.on) (h.agrees.cores t h.turn)

    -- while the turn stays its rank falls
    stays : stepped t (body κ given_now up c₀).1.did ≡ false → c₁.on t ≡ true → remaining κ l row c₁ t < remaining κ l s.waiting c₀ t
    stays n o = go (c₀.on t) refl
      where
        go : (b : Bool) → c₀.on t ≡ b → remaining κ l row c₁ t < remaining κ l s.waiting c₀ t
        go false e = clash o (off_stays κ laws c₀ s.memory s.said μ h.agrees h.live given_now (due_true s.memory s.waiting) up t e)
        go true e = elim (falls κ laws c₀ s.memory s.said μ h.agrees h.live given_now (due_true s.memory s.waiting) up t refl e h.turn
            l s.waiting row waiting (λ a g w. (later_left s.memory a s.waiting (asked late asked_now) g w).1) (λ a. left_late l a row late_end)) [
              | inl z ↦ clash (did_body c₀ s.memory s.said μ h.agrees h.live given_now (due_true s.memory s.waiting) up h.turn z) n
              | inr z ↦ omega arith
            ]

    off_machine : {A : Type 0} → (c₀.on t ≡ false) ⊎ A → ((core κ.isa μ t).on ≡ false) ⊎ A
    off_machine (inl z) = inl (machine_on ∙ z)
    off_machine (inr z) = inr z

    pub moves : ((s'.chip.hints.turn ≡ following (length μ.cores) t) × (((core κ.isa μ t).on ≡ false) ⊎ (1 ≤ steps t (steady_did (chip κ) up s))))
        ⊎ ((s'.chip.hints.turn ≡ t) × (rank κ l s'.chip s'.waiting < rank κ l c₀ s.waiting))
    unfolding steady_cycle cycle
    moves = elim (turn_moves c₀ s.memory s.said μ h.agrees h.live given_now (due_true s.memory s.waiting) up h.turn) [
      | inl z ↦ inl (z.0 ∙ ap (λ (n : ℕ). following n t) (sym h.agrees.many), off_machine z.1)
      | inr z ↦ inr (z.0, rw (body_asks κ given_now up c₀) (subst (λ (k : ℕ). remaining κ l row c₁ k < remaining κ l s.waiting c₀ t) (sym z.0) (stays z.1 z.2)))
    ]

  pub inv_turns : ByTurns κ.isa (chip κ) (Inv κ laws)
  inv_turns = record {
    turn = λ c. c.hints.turn;
    rank = λ l s. rank κ l s.chip s.waiting;
    there = λ l s μ r. rw r.holds.agrees.many r.holds.turn;
    short = λ l s μ r. short κ l s.chip s.waiting r.timely;
    moves = λ l s μ up late r soon. moves l s μ r.holds r.timely up late soon;
  }
