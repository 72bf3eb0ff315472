-- The lines that are asked for and written are memory's.
use Rattle.std.proofs.Common.{◌≡◌, ℕ, zero, suc, ◌/◌, ◌<◌, ◌≤◌, Bool, true, false, not, ◌&&◌, eqb, ltb, List, [], ◌∷◌, ◌++◌, map, length, refl, subst, arith}
use Rattle.cores.specs.Board.{Out, with_lines}
use Rattle.cores.specs.Loop.{Step, then, each}
use Rattle.cores.specs.Machines.{pick, Manual, events}
use Rattle.cores.specs.Promise.{once}
use Rattle.cores.specs.Put.{put}
use Rattle.cores.proofs.Basics.{by_test, choose, less, not_less, with_lines_length}
use Rattle.cached.specs.Soc.{State, requeue, hand_on, share_on, drop_probe, lets_go, requeue_lead, answer, answer_probe, take_due, deliver, act, start_next, start_at, next_start, take_all, answer_all, act_all, last, middle, rest, cycle, start_request, can_start}
use Rattle.directory.specs.Directory.{nobody, Request, idle, wants, queued, probing, fetching, free}
use Rattle.cached.specs.Kind.{Kind, Laws}
use Rattle.link.specs.Messages.{Probe, unasked, ask, all_unasked}
use Rattle.cores.specs.Kept.{Below}
use Rattle.cache.specs.Slots.{Slot, empty, holds, has, back}
use Rattle.cached.proofs.Agrees.{Agrees, After, Keeps, slot_size, each_keeps}
use Rattle.cached.proofs.Base.{eqb_self}
use Rattle.cached.proofs.Cases.{act_cases}
use Rattle.cached.proofs.CycleAgrees.{open_keeps, take_one_keeps, answer_one_keeps, act_one_keeps, hear_keeps}
use Rattle.cached.proofs.Lists.{at_line}
use Rattle.cached.proofs.Steps.{True}
use Rattle.cached.proofs.Tidy.{clear_here}

-- the numbers of lines
abbrev pub numbers : List (ℕ × List ℕ) → List ℕ
numbers ws = map (λ w. w.0) ws

below_append : (n : ℕ) (xs ys : List (ℕ × List ℕ)) → Below n (numbers xs) → Below n (numbers ys) → Below n (numbers (xs ++ ys))
below_append n [] ys a b = b
below_append n (x ∷ xs) ys a b = (a.0, below_append n xs ys a.1 b)

pub below_right : (n : ℕ) (xs ys : List ℕ) → Below n (xs ++ ys) → Below n ys
below_right n [] ys h = h
below_right n (x ∷ xs) ys h = below_right n xs ys h.1

-- a row in which nothing from n on stands
pub below_all : (n : ℕ) (w : List ℕ) → ((a : ℕ) → n ≤ a → once a w ≡ 0) → Below n w
unfolding once
below_all n [] h = tt
below_all n (b ∷ w) h = (here, below_all n w (λ a l. rest_none a (h a l)))
  where
    none_here : (b n r : ℕ) → (n ≤ b → pick (eqb b b) (suc r) r ≡ 0) → b < n
    none_here b n r h = by_test (ltb b n) (less b n) (λ e. let z = h (not_less b n e) in absurd (go b r z))
      where
        go : (b r : ℕ) → pick (eqb b b) (suc r) r ≡ 0 → ⊥
        go b r e = grind arith

    here : b < n
    here = none_here b n (once b w) (λ l. h b l)

    rest_none : (a : ℕ) → pick (eqb a b) (suc (once a w)) (once a w) ≡ 0 → once a w ≡ 0
    rest_none a e = go (eqb a b) (once a w) e
      where
        go : (z : Bool) (r : ℕ) → pick z (suc r) r ≡ 0 → r ≡ 0
        go true r e = absurd (omega arith)
        go false r e = e

module _ (κ : Kind) (laws : Laws κ) where
  -- what a step writes is memory's
  abbrev WritesIn : Step (State κ) → Type 0
  WritesIn f = (c : State κ) (m : List (List ℕ)) (s : List (ℕ × ℕ)) (μ : Manual κ.isa) → Agrees κ laws c m s μ → Below (length m) (numbers (f c).1.writes)

  then_in : (f g : Step (State κ)) (c : State κ) (m : List (List ℕ)) (s : List (ℕ × ℕ)) (μ : Manual κ.isa) → After κ laws (f c) m s μ → Below (length m) (numbers (f c).1.writes) → WritesIn g →
      Below (length m) (numbers (then f g c).1.writes)
  then_in f g c m s μ k a b = below_append (length m) (f c).1.writes (g (f c).0).1.writes a
      (subst (λ (n : ℕ). Below n (numbers (g (f c).0).1.writes)) (with_lines_length m (f c).1.writes) (b (f c).0 _ _ _ k))

  both_in : (f g : Step (State κ)) → Keeps κ laws f → WritesIn f → WritesIn g → WritesIn (then f g)
  both_in f g k a b c m s μ h = then_in f g c m s μ (k c m s μ h) (a c m s μ h) b

  each_in : (f : ℕ → Step (State κ)) → ((k : ℕ) → Keeps κ laws (f k)) → ((k : ℕ) → WritesIn (f k)) → (n : ℕ) → WritesIn (each f n)
  unfolding each
  each_in f k a zero c m s μ h = tt
  each_in f k a (suc n) c m s μ h = both_in (each f n) (f n) (each_keeps κ laws f n (λ i l. k i)) (each_in f k a n) (a n) c m s μ h

  module _ (c : State κ) (m : List (List ℕ)) (s : List (ℕ × ℕ)) (μ : Manual κ.isa) (g : Agrees κ laws c m s μ) where
    abbrev In : State κ × Out → Type 0
    In r = Below (length m) (numbers r.1.writes)

    -- a line that a slot has is memory's
    back_in : (q : ℕ) → Below (length m) (numbers (back (c.lines.slot q)))
    back_in q = go (c.lines.slot q) refl
      where
        there : (b : ℕ) → has (c.lines.slot q) b ≡ true → b < length m
        there b u = slot_size κ laws c m s μ q g (clear_here c.lines.slot (c.lines.coming (q / 64)) q b u (g.safe.tidy.bound (q / 64))) b u

        go : (x : Slot) → c.lines.slot q ≡ x → Below (length m) (numbers (back x))
        go empty e = tt
        go (holds b o true w) e = (there b (rw e (eqb_self b)), tt)
        go (holds b o false w) e = tt

    back_nil : (q : ℕ) → Below (length m) (numbers (back (c.lines.slot q) ++ []))
    back_nil q = below_append (length m) (back (c.lines.slot q)) [] (back_in q) tt

    hand_in : (q a j : ℕ) (r : Request) → In (hand_on κ q a j r c)
    hand_in q a j idle = back_in q
    hand_in q a j (wants b o p queued) = back_in q
    hand_in q a j (wants b o p fetching) = back_in q
    hand_in q a j (wants b o p probing) = choose In (eqb b a && free (put c.lines.entry q nobody) a 4) _ _ (λ u. tt) (λ u. back_nil q)

    share_in : (q a j : ℕ) (r : Request) → In (share_on κ q a j r c)
    share_in q a j idle = back_in q
    share_in q a j (wants b o p queued) = back_in q
    share_in q a j (wants b o p fetching) = back_in q
    share_in q a j (wants b o p probing) = choose In (eqb b a && not o) _ _ (λ u. back_nil q) (λ u. back_nil q)

    go_in : (p a : ℕ) (o : Bool) → In (lets_go κ p a o c)
    go_in p a true = choose In (all_unasked c.hints.probe && c.on c.hints.lead) _ _ (λ u. hand_in p a c.hints.lead (c.lines.request c.hints.lead)) (λ u. back_in p)
    go_in p a false = choose In (all_unasked c.hints.probe) _ _ (λ u. share_in p a c.hints.lead (c.lines.request c.hints.lead)) (λ u. back_in p)

    act_in : (up : ℕ → Bool) (k : ℕ) → In (act κ up k c)
    act_in up k = act_cases κ up k c In (record {
      none = λ h. tt;
      interrupts = λ l o w h. tt;
      does = λ o h. tt;
      sends = λ a o h n s i q. back_in _;
      sweeping = λ q x o h e. back_nil q;
      swept = λ x o h. tt;
    })

  requeue_none : (j : ℕ) (r : Request) (c : State κ) → (requeue κ j r c).1.writes ≡ []
  requeue_none j idle c = refl
  requeue_none j (wants a o p queued) c = refl
  requeue_none j (wants a o p fetching) c = refl
  requeue_none j (wants a o p probing) c = refl

  lead_none : (c : State κ) → (requeue_lead κ c).1.writes ≡ []
  lead_none c = choose (λ (r : State κ × Out). r.1.writes ≡ []) (all_unasked c.hints.probe) _ _ (λ u. requeue_none c.hints.lead (c.lines.request c.hints.lead) c) (λ u. refl)

  answer_in : (k : ℕ) (t : Probe) → WritesIn (answer κ k t)
  unfolding with_lines events
  answer_in k unasked c m s μ g = tt
  answer_in k (ask p a o) c m s μ g =
      let d : State κ = (drop_probe κ k c).0 in
      choose (In c m s μ g) (has (c.lines.slot p) a) _ _
      (λ u. below_append (length m) (lets_go κ p a o d).1.writes _ (go_in d m _ μ (hear_keeps κ laws c m s μ g k) p a o) (rw (lead_none (lets_go κ p a o d).0) tt))
      (λ u. rw (lead_none d) tt)

  answers_in : (k : ℕ) → WritesIn (answer_probe κ k)
  answers_in k c m s μ g = choose (In c m s μ g) (c.hints.due k) _ _ (λ u. tt) (λ u. answer_in k (c.hints.probe k) c m s μ g)

  takes_in : (k : ℕ) → WritesIn (take_due κ k)
  takes_in k c m s μ g = choose (In c m s μ g) (c.hints.due k) _ _ (λ u. tt) (λ u. tt)

  starts_in : WritesIn (start_next κ)
  starts_in c m s μ g = go (next_start κ c)
    where
      started : (k : ℕ) (r : Request) → In c m s μ g (start_request κ k r c)
      started k idle = tt
      started k (wants a o p probing) = tt
      started k (wants a o p fetching) = tt
      started k (wants a o p queued) = choose (In c m s μ g) (free c.lines.entry a 4) _ _ (λ v. tt) (λ v. tt)

      go : (k : ℕ) → In c m s μ g (start_at κ k c)
      go k = choose (In c m s μ g) (can_start κ c k) _ _ (λ u. started k (c.lines.request k)) (λ u. tt)

  rest_in : (up : ℕ → Bool) → WritesIn (rest κ up)
  rest_in up = both_in (take_all κ) (middle κ up) (each_keeps κ laws (take_due κ) 4 (λ k l c m s μ g. take_one_keeps κ laws c m s μ g k))
      (each_in (take_due κ) (λ k c m s μ g. take_one_keeps κ laws c m s μ g k) takes_in 4)
      (both_in (answer_all κ) (last κ up) (each_keeps κ laws (answer_probe κ) 4 (λ k l c m s μ g. answer_one_keeps κ laws c m s μ g k))
      (each_in (answer_probe κ) (λ k c m s μ g. answer_one_keeps κ laws c m s μ g k) answers_in 4)
      (both_in (act_all κ up) (start_next κ) (each_keeps κ laws (act κ up) 4 (λ k l c m s μ g. act_one_keeps κ laws c m s μ g up k))
      (each_in (act κ up) (λ k c m s μ g. act_one_keeps κ laws c m s μ g up k) (λ k c m s μ g. act_in c m s μ g up k) 4) starts_in))

  -- a cycle writes no line outside memory
  pub cycle_in : (c : State κ) (m : List (List ℕ)) (s : List (ℕ × ℕ)) (μ : Manual κ.isa) (xs : List (ℕ × List ℕ)) (up : ℕ → Bool) → True (at_line m) xs → Agrees κ laws c m s μ →
      Below (length m) (numbers (cycle κ c xs up).1.writes)
  unfolding cycle
  cycle_in c m s μ xs up t g = then_in (deliver κ xs) (rest κ up) c m s μ (open_keeps κ laws c m s μ xs t g) tt (rest_in up)
