-- Runs on any board: what holds at power-on and is kept by each cycle holds after every row of choices. From there to six of the promises.
use Rattle.std.proofs.Common.{◌≡◌, ℕ, ◌-◌, ◌≤◌, false, List, [], ◌∷◌, ◌++◌, length, sym, refl, ap, ◌∙◌, subst, append_assoc, arith}
use Rattle.cores.specs.Machines.{Event, Isa, Manual, core, events, begins, manual_after}
use Rattle.cores.specs.Board.{Choice, Board, new_board, board_after, Chip, cycles, powered}
use Rattle.cores.specs.Promise.{Memory, SameSaid, WhenRaised, WhereLet, OneEach, Few, CleanAfter}
use Rattle.cores.specs.Owed.{Allowed, cycled, next_board, Relation, Kept, Faithful, Bounded, Drains}
use Rattle.cores.proofs.Basics.{append_nil, with_lines_length}
use Rattle.cores.proofs.Machines.{events_append, steps_append, interrupts_append, allowed_append, allowed_at, manual_many, events_still, all_off}

-- rows of choices one after another
module _ (C : Chip) where
  pub cycles_append : (h : C.State) (b : Board) (xs ys : List Choice) → cycles C h b (xs ++ ys) ≡ cycles C (cycles C h b xs).0 (cycles C h b xs).1 ys
  unfolding cycles
  cycles_append h b [] ys = refl
  cycles_append h b (x ∷ xs) ys = cycles_append (cycled C h b x).0 (next_board C h b x) xs ys

  pub powered_append : (n : ℕ) (m : List (List ℕ)) (xs ys : List Choice) → powered C n m (xs ++ ys) ≡ cycles C (powered C n m xs).0 (powered C n m xs).1 ys
  unfolding powered
  powered_append n m xs ys = cycles_append (C.fresh n (length m)) (new_board m) xs ys

  -- what one cycle more adds to what was done
  pub one_more : (n : ℕ) (m : List (List ℕ)) (cs : List Choice) (c : Choice) →
      (powered C n m (cs ++ c ∷ [])).1.did ≡ (powered C n m cs).1.did ++ (cycled C (powered C n m cs).0 (powered C n m cs).1 c).1.did
  unfolding cycles board_after
  one_more n m cs c = ap (λ (r : C.State × Board). r.1.did) (powered_append n m cs (c ∷ []))

  -- what more cycles do is added to what was done
  cycles_more : (h : C.State) (b : Board) (cs : List Choice) → (es : List Event) × ((cycles C h b cs).1.did ≡ b.did ++ es)
  unfolding cycles board_after
  cycles_more h b [] = ([], sym (append_nil b.did))
  cycles_more h b (c ∷ cs) =
      let z = cycles_more (cycled C h b c).0 (next_board C h b c) cs in
      ((cycled C h b c).1.did ++ z.0, z.1 ∙ append_assoc b.did (cycled C h b c).1.did z.0)

  -- memory keeps its length
  cycles_length : (h : C.State) (b : Board) (cs : List Choice) → length (cycles C h b cs).1.memory ≡ length b.memory
  unfolding cycles board_after
  cycles_length h b [] = refl
  cycles_length h b (c ∷ cs) = cycles_length (cycled C h b c).0 (next_board C h b c) cs ∙ with_lines_length b.memory (cycled C h b c).1.writes

  pub powered_length : (n : ℕ) (m : List (List ℕ)) (cs : List Choice) → length (powered C n m cs).1.memory ≡ length m
  unfolding powered
  powered_length n m cs = cycles_length (C.fresh n (length m)) (new_board m) cs

module _ (I : Isa) (C : Chip) (Inv : Relation I C) (kept : Kept I C Inv) where
  -- a cycle keeps the invariant with the machines after all that was done since μ
  step_on : (μ : Manual I) (h : C.State) (b : Board) (c : Choice) → Inv h b (events I μ b.did) → Inv (cycled C h b c).0 (next_board C h b c) (events I μ (next_board C h b c).did)
  unfolding board_after
  step_on μ h b c i = rw (events_append I μ b.did (cycled C h b c).1.did) (kept.keeps h b (events I μ b.did) c i)

  runs : (μ : Manual I) (h : C.State) (b : Board) (cs : List Choice) → Inv h b (events I μ b.did) → Inv (cycles C h b cs).0 (cycles C h b cs).1 (events I μ (cycles C h b cs).1.did)
  unfolding cycles
  runs μ h b [] i = i
  runs μ h b (c ∷ cs) i = runs μ (cycled C h b c).0 (next_board C h b c) cs (step_on μ h b c i)

  -- the invariant holds after every row of choices
  pub powered_inv : (n : ℕ) (m : List (List ℕ)) (cs : List Choice) → 1 ≤ n → n ≤ 4 → Memory m → Inv (powered C n m cs).0 (powered C n m cs).1 (manual_after I n m (powered C n m cs).1.did)
  unfolding powered manual_after events
  powered_inv n m cs p q r = runs (begins I n m) (C.fresh n (length m)) (new_board m) cs (kept.starts n m p q r)

  module _ (faithful : Faithful I C Inv) where
    pub same_said : SameSaid I C
    unfolding SameSaid
    same_said n m cs k p q r = faithful.same _ _ _ k (powered_inv n m cs p q r)

    pub when_raised : WhenRaised I C
    unfolding WhenRaised
    when_raised n m cs c k p q r e = rw (one_more C n m cs c, interrupts_append) (let z = faithful.lowered _ _ _ c k (powered_inv n m cs p q r) e in omega arith)

    pub one_each : OneEach I C
    unfolding OneEach
    one_each n k m cs c p q r = rw (one_more C n m cs c, steps_append) (let z = faithful.single _ _ _ c k (powered_inv n m cs p q r) in omega arith)

    all_allowed : (μ : Manual I) (h : C.State) (b : Board) (cs : List Choice) → Inv h b (events I μ b.did) → Allowed I μ b.did → Allowed I μ (cycles C h b cs).1.did
    unfolding cycles board_after
    all_allowed μ h b [] i a = a
    all_allowed μ h b (c ∷ cs) i a = all_allowed μ (cycled C h b c).0 (next_board C h b c) cs (step_on μ h b c i)
        (allowed_append I μ b.did (cycled C h b c).1.did a (faithful.allowed h b (events I μ b.did) c i))

    pub where_let : WhereLet I C
    unfolding WhereLet powered manual_after events
    where_let n m cs es rest k p q r e = allowed_at I (begins I n m) es rest k
        (rw e at (all_allowed (begins I n m) (C.fresh n (length m)) (new_board m) cs (kept.starts n m p q r) tt))

  pub few : Bounded I C Inv → Few I C
  unfolding Few
  few bounded n m cs a p q r =
      let i = powered_inv n m cs p q r in
      (bounded.few _ _ _ i, bounded.apart _ _ _ a i, (λ l. bounded.inside _ _ _ a i (rw (powered_length C n m cs) l)), bounded.proper _ _ _ i)

  -- once all are off, more cycles do nothing to the manual's machines
  stays_manual : (n : ℕ) (m : List (List ℕ)) (cs ds : List Choice) → ((k : ℕ) → (core I (manual_after I n m (powered C n m cs).1.did) k).on ≡ false) →
      manual_after I n m (powered C n m (cs ++ ds)).1.did ≡ manual_after I n m (powered C n m cs).1.did
  unfolding manual_after
  stays_manual n m cs ds o =
      let r = powered C n m cs in
      let more = cycles_more C r.0 r.1 ds in
      ap (λ (x : C.State × Board). events I (begins I n m) x.1.did) (powered_append C n m cs ds) ∙ ap (events I (begins I n m)) more.1
      ∙ events_append I (begins I n m) r.1.did more.0 ∙ events_still I (events I (begins I n m) r.1.did) more.0 o

  module _ (drains : Drains I C Inv) where
    -- with all off, each cycle leaves less to write
    drained : (μ : Manual I) (h : C.State) (b : Board) (ds : List Choice) → ((k : ℕ) → (core I μ k).on ≡ false) → Inv h b μ → drains.left (cycles C h b ds).0 ≤ drains.left h - length ds
    unfolding cycles
    drained μ h b [] o i = omega arith
    drained μ h b (c ∷ ds) o i =
        let z : drains.left (cycled C h b c).0 ≤ drains.left h - 1 = drains.falls h b μ c i o in
        let j = subst (Inv (cycled C h b c).0 (next_board C h b c)) (events_still I μ (cycled C h b c).1.did o) (kept.keeps h b μ c i) in
        let y = drained μ (cycled C h b c).0 (next_board C h b c) ds o j in
        omega arith

    pub clean_after : CleanAfter I C
    unfolding CleanAfter
    clean_after n m cs ds p q r o l =
        let x = powered C n m cs in
        let μ = manual_after I n m x.1.did in
        let i : Inv x.0 x.1 μ = powered_inv n m cs p q r in
        let all = all_off I μ n (manual_many I n m x.1.did) o in
        let z = drained μ x.0 x.1 ds all i in
        let y : drains.left x.0 ≤ 8192 = drains.little x.0 x.1 μ i in
        let j : Inv (powered C n m (cs ++ ds)).0 (powered C n m (cs ++ ds)).1 μ = subst (Inv _ _) (stays_manual n m cs ds all) (powered_inv n m (cs ++ ds) p q r) in
        drains.clean _ _ μ j all (rw (powered_append C n m cs ds) (omega arith))

-- a chip that leaves nothing to write drains
pub never_dirty : (I : Isa) (C : Chip) (Inv : Relation I C) → ((h : C.State) (b : Board) (μ : Manual I) → Inv h b μ → b.memory ≡ μ.memory) → Drains I C Inv
never_dirty I C Inv clean = record {
  left = λ h. 0;
  little = λ h b μ i. omega arith;
  falls = λ h b μ c i o. omega arith;
  clean = λ h b μ i o e. clean h b μ i;
}
