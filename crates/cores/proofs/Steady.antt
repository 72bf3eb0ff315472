-- A steady board is a board with certain choices: it gives the lines whose time has come. So the invariant holds there too; from there to AllGoOn and Taken.
use Rattle.std.proofs.Common.{◌≡◌, ℕ, zero, suc, ◌+◌, ◌-◌, ◌*◌, ◌<◌, ◌≤◌, Bool, true, false, eqb, ◌≢◌, ◌⊎◌, List, [], ◌∷◌, ◌++◌, length, get_or, sym, refl, ap, ◌∙◌, subst, inl, inr, arith}
use Rattle.cores.specs.Machines.{pick, steps, interrupts, Isa, Manual, core, events, begins, manual_after}
use Rattle.cores.specs.Board.{Choice, among, handed, kept, board_after, Chip, due, later, asked, Steady, steady_cycle, steady, steady_start}
use Rattle.cores.specs.Promise.{Memory, AllGoOn, Taken}
use Rattle.cores.specs.Owed.{following, lines, Timely, cycled, board_of, steady_did, Relation, Kept, Faithful, Running, ByTurns}
use Rattle.cores.proofs.Basics.{by_test, same, differ}
use Rattle.cores.proofs.Machines.{events_append, steps_append, interrupts_append, manual_many, events_off}
use Rattle.cores.proofs.Count.{kept_till, grown, often, rank_by_turns, rank_passes, rank_small}

-- the places, from i on, of the lines whose time has come
unfoldable pub zeros : ℕ → List (ℕ × ℕ) → List ℕ
zeros i [] = []
zeros i (w ∷ ws) = pick (eqb w.1 0) (i ∷ zeros (suc i) ws) (zeros (suc i) ws)

pub lines_append : (xs ys : List (ℕ × ℕ)) → lines (xs ++ ys) ≡ lines xs ++ lines ys
unfolding lines
lines_append [] ys = refl
lines_append (x ∷ xs) ys = ap {B = List ℕ} (λ r. x.0 ∷ r) (lines_append xs ys)

among_zeros : (j i : ℕ) (ws : List (ℕ × ℕ)) → j < i → among j (zeros i ws) ≡ false
unfolding among zeros
among_zeros j i [] l = refl
among_zeros j i (w ∷ ws) l = let ih = among_zeros j (suc i) ws (omega arith) in grind arith

among_cons : (g j i : ℕ) (gs : List ℕ) → g < i → i ≤ j → among j (g ∷ gs) ≡ among j gs
unfolding among
among_cons g j i gs l m = grind arith

among_here : (i : ℕ) (gs : List ℕ) → among i (i ∷ gs) ≡ true
unfolding among
among_here i gs = grind arith

-- a place that is passed matters no more
handed_cons : (m : List (List ℕ)) (g i : ℕ) (gs ls : List ℕ) → g < i → handed m (g ∷ gs) i ls ≡ handed m gs i ls
unfolding handed
handed_cons m g i gs [] l = refl
handed_cons m g i gs (a ∷ ls) l = rw (among_cons g i i gs l (omega arith), handed_cons m g (suc i) gs ls (omega arith))

kept_cons : (g i : ℕ) (gs ls : List ℕ) → g < i → kept (g ∷ gs) i ls ≡ kept gs i ls
unfolding kept
kept_cons g i gs [] l = refl
kept_cons g i gs (a ∷ ls) l = rw (among_cons g i i gs l (omega arith), kept_cons g (suc i) gs ls (omega arith))

due_step : (m : List (List ℕ)) (a i : ℕ) (zs ls : List ℕ) (ds : List (ℕ × List ℕ)) (b : Bool) → among i zs ≡ false → handed m zs (suc i) ls ≡ ds →
    handed m (pick b (i ∷ zs) zs) i (a ∷ ls) ≡ pick b ((a, get_or m a []) ∷ ds) ds
unfolding handed
due_step m a i zs ls ds true e h = rw (among_here i zs, handed_cons m i (suc i) zs ls (omega arith), h)
due_step m a i zs ls ds false e h = rw (e, h)

later_step : (a n i : ℕ) (zs ls : List ℕ) (ds : List (ℕ × ℕ)) (b : Bool) → among i zs ≡ false → kept zs (suc i) ls ≡ lines ds →
    kept (pick b (i ∷ zs) zs) i (a ∷ ls) ≡ lines (pick b ds ((a, n) ∷ ds))
unfolding kept lines
later_step a n i zs ls ds true e h = rw (among_here i zs, kept_cons i (suc i) zs ls (omega arith), h)
later_step a n i zs ls ds false e h = rw (e, h)

-- the lines that are due are those that these choices hand over
pub due_handed : (m : List (List ℕ)) (i : ℕ) (ws : List (ℕ × ℕ)) → handed m (zeros i ws) i (lines ws) ≡ due m ws
unfolding due zeros lines handed
due_handed m i [] = refl
due_handed m i (w ∷ ws) = due_step m w.0 i (zeros (suc i) ws) (lines ws) (due m ws) (eqb w.1 0) (among_zeros i (suc i) ws (omega arith)) (due_handed m (suc i) ws)

pub later_kept : (i : ℕ) (ws : List (ℕ × ℕ)) → kept (zeros i ws) i (lines ws) ≡ lines (later ws)
unfolding later kept zeros lines
later_kept i [] = refl
later_kept i (w ∷ ws) = later_step w.0 (w.1 - 1) i (zeros (suc i) ws) (lines ws) (later ws) (eqb w.1 0) (among_zeros i (suc i) ws (omega arith)) (later_kept (suc i) ws)

pub asked_lines : (late : ℕ → ℕ) (ls : List ℕ) → lines (asked late ls) ≡ ls
unfolding lines asked
asked_lines late [] = refl
asked_lines late (a ∷ ls) = ap {B = List ℕ} (λ r. a ∷ r) (asked_lines late ls)

-- lines stay in time
timely_append : (l : ℕ) (xs ys : List (ℕ × ℕ)) → Timely l xs → Timely l ys → Timely l (xs ++ ys)
timely_append l [] ys a b = b
timely_append l (x ∷ xs) ys a b = (a.0, timely_append l xs ys a.1 b)

timely_later : (l : ℕ) (ws : List (ℕ × ℕ)) → Timely l ws → Timely l (later ws)
unfolding later
timely_later l [] t = tt
timely_later l (w ∷ ws) t = go (eqb w.1 0) (later ws) (timely_later l ws t.1)
  where
    go : (b : Bool) (r : List (ℕ × ℕ)) → Timely l r → Timely l (pick b r ((w.0, w.1 - 1) ∷ r))
    go true r h = h
    go false r h = (let z : w.1 ≤ l = t.0 in omega arith, h)

timely_asked : (l : ℕ) (late : ℕ → ℕ) (ls : List ℕ) → ((a : ℕ) → late a ≤ l) → Timely l (asked late ls)
unfolding asked
timely_asked l late [] h = tt
timely_asked l late (a ∷ ls) h = (h a, timely_asked l late ls h)

module _ (C : Chip) where
  cycle_timely : (l : ℕ) (up : ℕ → Bool) (late : ℕ → ℕ) (s : Steady C) → ((a : ℕ) → late a ≤ l) → Timely l s.waiting → Timely l (steady_cycle C up late s).waiting
  unfolding steady_cycle
  cycle_timely l up late s h t = timely_append l (later s.waiting) _ (timely_later l s.waiting t) (timely_asked l late _ h)

  -- the choice of a steady board
  abbrev pub choice_of : (ℕ → Bool) → Steady C → Choice
  choice_of up s = record { given = zeros 0 s.waiting; raised = up }

  -- what is done in its cycle is what is done under that choice
  pub did_same : (up : ℕ → Bool) (s : Steady C) → (cycled C s.chip (board_of C s) (choice_of up s)).1.did ≡ steady_did C up s
  did_same up s = ap (λ xs. (C.cycle s.chip xs up).1.did) (due_handed s.memory 0 s.waiting)

module _ (I : Isa) (C : Chip) (Inv : Relation I C) (keeping : Kept I C Inv) where
  -- a steady cycle keeps what each cycle keeps
  steady_keeps : (μ : Manual I) (up : ℕ → Bool) (late : ℕ → ℕ) (s : Steady C) → Inv s.chip (board_of C s) μ →
      Inv (steady_cycle C up late s).chip (board_of C (steady_cycle C up late s)) (events I μ (steady_did C up s))
  unfolding steady_cycle board_after
  steady_keeps μ up late s i = rw (lines_append, asked_lines, ← (did_same C up s), ← (later_kept 0 s.waiting), ← (due_handed s.memory 0 s.waiting))
      (keeping.keeps s.chip (board_of C s) μ (choice_of C up s) i)

  run_on : (l : ℕ) (μ : Manual I) (up : ℕ → Bool) (late : ℕ → ℕ) (s : Steady C) → ((a : ℕ) → late a ≤ l) → Running I C Inv l s μ → Running I C Inv l (steady_cycle C up late s) (events I μ (steady_did C up s))
  run_on l μ up late s h r = record { holds = steady_keeps μ up late s r.holds; timely = cycle_timely C l up late s h r.timely }

  -- a run of a steady board: n cores, memory m, each line within l cycles after the next
  module _ (n l : ℕ) (m : List (List ℕ)) (up : ℕ → ℕ → Bool) (late : ℕ → ℕ → ℕ) (n1 : 1 ≤ n) (n4 : n ≤ 4) (mm : Memory m) (timely : (c a : ℕ) → late c a ≤ l) where
    abbrev run : ℕ → Steady C
    run c = steady C up late c (steady_start C n m)

    abbrev manual : ℕ → Manual I
    manual c = manual_after I n m (run c).did

    run_did : (c : ℕ) → (run (suc c)).did ≡ (run c).did ++ steady_did C (up c) (run c)
    unfolding steady steady_cycle
    run_did c = refl

    run_manual : (c : ℕ) → manual (suc c) ≡ events I (manual c) (steady_did C (up c) (run c))
    unfolding manual_after
    run_manual c = ap (events I (begins I n m)) (run_did c) ∙ events_append I (begins I n m) (run c).did (steady_did C (up c) (run c))

    running : (c : ℕ) → Running I C Inv l (run c) (manual c)
    unfolding steady steady_start manual_after events lines
    running zero = record { holds = keeping.starts n m n1 n4 mm; timely = tt }
    running (suc c) = subst (Running I C Inv l (run (suc c))) (sym (run_manual c)) (run_on l (manual c) (up c) (late c) (run c) (timely c) (running c))

    run_steps : (k c : ℕ) → steps k (run (suc c)).did ≡ steps k (run c).did + steps k (steady_did C (up c) (run c))
    run_steps k c = ap (steps k) (run_did c) ∙ steps_append k (run c).did (steady_did C (up c) (run c))

    run_interrupts : (k c : ℕ) → interrupts k (run (suc c)).did ≡ interrupts k (run c).did + interrupts k (steady_did C (up c) (run c))
    run_interrupts k c = ap (interrupts k) (run_did c) ∙ interrupts_append k (run c).did (steady_did C (up c) (run c))

    steps_grow : (k c : ℕ) → steps k (run c).did ≤ steps k (run (suc c)).did
    steps_grow k c = omega (arith, run_steps k c)

    interrupts_grow : (k c : ℕ) → interrupts k (run c).did ≤ interrupts k (run (suc c)).did
    interrupts_grow k c = omega (arith, run_interrupts k c)

    run_off : (k c : ℕ) → (core I (manual c) k).on ≡ false → (core I (manual (suc c)) k).on ≡ false
    run_off k c o = rw (run_manual c) (events_off I (manual c) k (steady_did C (up c) (run c)) o)

    module _ (k : ℕ) (kn : k < n) where
      inside : (c : ℕ) → k < length (manual c).cores
      inside c = rw (manual_many I n m (run c).did) kn

      -- an interrupt that is let is taken in the cycle in which its line is up, or the core is off
      run_taken : Faithful I C Inv → (s e : ℕ) → s < e → up s k ≡ true → I.lets (core I (manual s) k).cpu ≡ true →
          (interrupts k (run s).did < interrupts k (run e).did) ⊎ ((core I (manual e) k).on ≡ false)
      run_taken faithful s e h u x = by_test (core I (manual s) k).on
          (λ o. let z = faithful.takes (run s).chip (board_of C (run s)) (manual s) (choice_of C (up s) (run s)) k (running s).holds (inside s) u x o in
          let w : 1 ≤ interrupts k (steady_did C (up s) (run s)) = rw (did_same C (up s) (run s)) at z in
          let y : interrupts k (run (suc s)).did ≤ interrupts k (run e).did = grown (λ c. interrupts k (run c).did) (interrupts_grow k) e (suc s) h in
          inl (omega (arith, run_interrupts k s)))
          (λ o. inr (kept_till (λ c. (core I (manual c) k).on ≡ false) (run_off k) e s (omega arith) o))

      module _ (turns : ByTurns I C Inv) where
        -- the rank of core k: the turns before its own, and the rank of the turn
        abbrev rank : ℕ → ℕ
        rank c = rank_by_turns n (64 * (l + 1)) (turns.turn (run c).chip) (turns.rank l (run c)) k

        there : (c : ℕ) → turns.turn (run c).chip < n
        there c = subst (λ j. turns.turn (run c).chip < j) (manual_many I n m (run c).did) (turns.there l (run c) (manual c) (running c))

        short : (c : ℕ) → turns.rank l (run c) < 64 * (l + 1)
        short c = turns.short l (run c) (manual c) (running c)

        rank_bound : (c : ℕ) → rank c < 256 * (l + 1)
        rank_bound c = let z = rank_small n (64 * (l + 1)) (turns.turn (run c).chip) (turns.rank l (run c)) k (there c) kn n4 (short c) in omega arith

        mine : {A : Type 0} (c j : ℕ) → k ≡ j → ((core I (manual c) j).on ≡ false) ⊎ (1 ≤ steps j (steady_did C (up c) (run c))) →
            (steps k (run c).did < steps k (run (suc c)).did) ⊎ (((core I (manual c) k).on ≡ false) ⊎ A)
        mine c j e (inl o) = inr (inl (ap (λ i. (core I (manual c) i).on) e ∙ o))
        mine c j e (inr o) = let z : 1 ≤ steps k (steady_did C (up c) (run c)) = subst (λ i. 1 ≤ steps i (steady_did C (up c) (run c))) (sym e) o in inl (omega (arith, run_steps k c))

        passes : (t u ρ σ : ℕ) → u ≡ following n t → t < n → k ≢ t → σ < 64 * (l + 1) → rank_by_turns n (64 * (l + 1)) u σ k < rank_by_turns n (64 * (l + 1)) t ρ k
        passes t u ρ σ e a d s = rw e (rank_passes n (64 * (l + 1)) t ρ σ k a kn d s)

        falls : (t u ρ σ : ℕ) → u ≡ t → σ < ρ → rank_by_turns n (64 * (l + 1)) u σ k < rank_by_turns n (64 * (l + 1)) t ρ k
        falls t u ρ σ e s = rw e (omega arith)

        abbrev t : ℕ → ℕ
        t c = turns.turn (run c).chip

        -- in each cycle core k does an instruction, or it is off, or its rank falls
        core_moves : (c : ℕ) →
            ((t (suc c) ≡ following (length (manual c).cores) (t c)) × (((core I (manual c) (t c)).on ≡ false) ⊎ (1 ≤ steps (t c) (steady_did C (up c) (run c)))))
            ⊎ ((t (suc c) ≡ t c) × (turns.rank l (run (suc c)) < turns.rank l (run c))) →
            (steps k (run c).did < steps k (run (suc c)).did) ⊎ (((core I (manual c) k).on ≡ false) ⊎ (rank (suc c) < rank c))
        core_moves c (inr z) = inr (inr (falls (t c) (t (suc c)) (turns.rank l (run c)) (turns.rank l (run (suc c))) z.0 z.1))
        core_moves c (inl z) = by_test (eqb k (t c)) (λ e. mine c (t c) (same k (t c) e) z.1)
            (λ e. inr (inr (passes (t c) (t (suc c)) (turns.rank l (run c)) (turns.rank l (run (suc c)))
            (subst (λ j. t (suc c) ≡ following j (t c)) (manual_many I n m (run c).did) z.0) (there c) (differ k (t c) e) (short (suc c)))))

        run_moves : (c : ℕ) → (steps k (run c).did < steps k (run (suc c)).did) ⊎ (((core I (manual c) k).on ≡ false) ⊎ (rank (suc c) < rank c))
        unfolding steady
        run_moves c = core_moves c (turns.moves l (run c) (manual c) (up c) (late c) (running c) (timely c))

        run_often : (t c e : ℕ) → c + 256 * (l + 1) * t ≤ e → (steps k (run c).did + t ≤ steps k (run e).did) ⊎ ((core I (manual e) k).on ≡ false)
        run_often = often (λ c. steps k (run c).did) rank (λ c. (core I (manual c) k).on ≡ false) (steps_grow k) (run_off k) run_moves (256 * (l + 1)) rank_bound

  pub all_go_on : ByTurns I C Inv → AllGoOn I C
  unfolding AllGoOn
  all_go_on turns n l s t k m up late p q r kn h = run_often n l m up late p q r h k kn turns t s (s + 256 * (l + 1) * t) (omega arith)

  pub taken : Faithful I C Inv → Taken I C
  unfolding Taken
  taken faithful n l s k m up late p q r kn h u x = go (run_taken n l m up late p q r h k kn faithful s (s + 256 * (l + 1)) (omega arith) (u s (omega arith) (omega arith)) x)
    where
      go : {A B C : Type 0} → A ⊎ C → A ⊎ (B ⊎ C)
      go (inl z) = inl z
      go (inr z) = inr (inr z)
