-- The cycle keeps the chip in agreement with the board and the machines: it is made of steps that do, whatever the hints are.
use Rattle.std.proofs.Common.{◌≡◌, ℕ, ◌+◌, ◌*◌, ◌/◌, ◌%◌, ◌<◌, ◌≤◌, Bool, true, false, ◌&&◌, ltb, List, [], length, refl, ap, ◌∙◌, append_assoc, arith}
use mathlib.Core.Bool.{false≢true}
use Rattle.cores.specs.Board.{Out, with_lines}
use Rattle.cores.specs.Loop.{Step, silent, then}
use Rattle.cores.specs.Machines.{Manual, begins, events, core}
use Rattle.cores.specs.Promise.{Memory}
use Rattle.cores.specs.Put.{put}
use Rattle.cores.proofs.Basics.{choose, less, with_lines_append}
use Rattle.cores.proofs.Machines.{fresh_many, fresh_core, events_append}
use Rattle.cached.specs.Soc.{Hints, State, act_all, act, answer, answer_all, answer_probe, body, can_start, cycle, fresh, drop_probe, hint, last, lets_go, may_send, middle, next_start, deliver, rest, start_at, start_next, write_back, take_due, take_all, requeue_lead, with_sweep, with_probes}
use Rattle.cached.specs.Kind.{Kind, Laws}
use Rattle.cached.specs.Lines.{deliver_all}
use Rattle.link.specs.Messages.{Probe, all_unasked, ask, unasked}
use Rattle.cache.specs.Slots.{has}
use Rattle.cached.proofs.Agrees.{After, Agrees, Keeps, back_keeps, each_keeps, hand_on_keeps, moves_keeps, share_on_keeps, stay_keeps, take_keeps, then_after, then_keeps, weaken_keeps}
use Rattle.cached.proofs.Lists.{at_line}
use Rattle.cached.proofs.Steps.{True, act_keeps, deliver_safe, requeue_any, start_keeps, sweep_keeps}
use Rattle.cached.proofs.Tidy.{clear_here}

module _ (κ : Kind) (laws : Laws κ) where
  abbrev K : Step (State κ) → Type 0
  K = Keeps κ laws

  hint_keeps : (g : State κ → Hints) → K (hint κ g)
  unfolding with_lines events
  hint_keeps g c m s μ a = let z = stay_keeps κ laws c m s μ a in
      record { safe = z.safe; small = z.small; outside = z.outside; inside = z.inside; many = z.many; cores = z.cores; said = z.said; proper = z.proper; words_true = z.words_true; sound = z.sound }

  -- one step, then another that is only known to be right after it
  then_in : (f h : Step (State κ)) (c : State κ) (m : List (List ℕ)) (s : List (ℕ × ℕ)) (μ : Manual κ.isa) → After κ laws (f c) m s μ →
      ((n : List (List ℕ)) (t : List (ℕ × ℕ)) (ν : Manual κ.isa) → Agrees κ laws (f c).0 n t ν → After κ laws (h (f c).0) n t ν) →
      After κ laws (then f h c) m s μ
  then_in f h c m s μ a q = rw (with_lines_append, events_append, ← append_assoc) (q _ _ _ a)

  module _ (c : State κ) (m : List (List ℕ)) (s : List (ℕ × ℕ)) (μ : Manual κ.isa) (g : Agrees κ laws c m s μ) where
    abbrev OK : State κ × Out → Type 0
    OK r = After κ laws r m s μ

    here : OK (c, silent)
    here = stay_keeps κ laws c m s μ g

    pub take_one_keeps : (k : ℕ) → OK (take_due κ k c)
    take_one_keeps k = choose OK (c.hints.due k) _ _ (λ u. take_keeps κ laws k c m s μ g) (λ u. here)

    unprobed_keeps : OK (requeue_lead κ c)
    unprobed_keeps = choose OK (all_unasked c.hints.probe) _ _ (λ u. requeue_any κ laws c m s μ g c.hints.lead) (λ u. here)

    go_keeps : (p a : ℕ) (o : Bool) → has (c.lines.slot p) a ≡ true → OK (lets_go κ p a o c)
    go_keeps p a true u = let k = clear_here c.lines.slot (c.lines.coming (p / 64)) p a u (g.safe.tidy.bound (p / 64)) in
        choose OK (all_unasked c.hints.probe && c.on c.hints.lead) _ _
        (λ t. hand_on_keeps κ laws p a c.hints.lead c m s μ g k u) (λ t. back_keeps κ laws p c m s μ g k)
    go_keeps p a false u = let k = clear_here c.lines.slot (c.lines.coming (p / 64)) p a u (g.safe.tidy.bound (p / 64)) in
        choose OK (all_unasked c.hints.probe) _ _
        (λ t. share_on_keeps κ laws p a c.hints.lead c m s μ g k u) (λ t. weaken_keeps κ laws p c m s μ g k)

  module _ (c : State κ) (m : List (List ℕ)) (s : List (ℕ × ℕ)) (μ : Manual κ.isa) (g : Agrees κ laws c m s μ) where
    abbrev Fine : State κ × Out → Type 0
    Fine r = After κ laws r m s μ

    pub hear_keeps : (k : ℕ) → Fine (drop_probe κ k c)
    hear_keeps k = hint_keeps (λ x. with_probes (put x.hints.probe k unasked) x.hints) c m s μ g

    answer_keeps : (k : ℕ) (t : Probe) → Fine (answer κ k t c)
    answer_keeps k unasked = here c m s μ g
    answer_keeps k (ask p a o) = choose Fine (has (c.lines.slot p) a) _ _
        (λ u. then_in (drop_probe κ k) (then (lets_go κ p a o) (requeue_lead κ)) c m s μ (hear_keeps k)
        (λ n t ν h. then_after κ laws (lets_go κ p a o) (requeue_lead κ) _ n t ν (go_keeps _ n t ν h p a o u) unprobed_keeps))
        (λ u. then_after κ laws (drop_probe κ k) (requeue_lead κ) c m s μ (hear_keeps k) unprobed_keeps)

    pub answer_one_keeps : (k : ℕ) → Fine (answer_probe κ k c)
    answer_one_keeps k = choose Fine (c.hints.due k) _ _ (λ u. here c m s μ g) (λ u. answer_keeps k (c.hints.probe k))

    pub act_one_keeps : (up : ℕ → Bool) (k : ℕ) → Fine (act κ up k c)
    act_one_keeps up k = choose Fine (c.on k) _ _
        (λ o. choose Fine (ltb k c.count) _ _ (λ l. act_keeps κ laws k c m s μ g (less k c.count l) o (up k)) (λ l. here c m s μ g))
        (λ o. choose Fine (may_send κ c k) _ _
        (λ u. then_after κ laws (write_back κ (64 * k + c.hints.sweep k % 64)) (hint κ (λ d. with_sweep k ((d.hints.sweep k + 1) % 64) d.hints)) c m s μ (sweep_keeps κ laws c m s μ g _)
        (hint_keeps (λ d. with_sweep k ((d.hints.sweep k + 1) % 64) d.hints)))
        (λ u. here c m s μ g))

    pub start_at_keeps : (k : ℕ) → Fine (start_at κ k c)
    start_at_keeps k = choose Fine (can_start κ c k) _ _ (λ u. start_keeps κ laws c m s μ g k u) (λ u. here c m s μ g)

  pub open_keeps : (c : State κ) (m : List (List ℕ)) (s : List (ℕ × ℕ)) (μ : Manual κ.isa) (xs : List (ℕ × List ℕ)) → True (at_line m) xs → Agrees κ laws c m s μ → After κ laws (deliver κ xs c) m s μ
  unfolding with_lines events
  open_keeps c m s μ xs t g = let z = moves_keeps κ laws c m s μ (deliver_all 4 xs c.lines) [] g (deliver_safe c.size 4 xs c.lines (at_line m) (at_line μ.memory) t g.safe) g.proper in
      record { safe = z.safe; small = z.small; outside = z.outside; inside = z.inside; many = z.many; cores = z.cores; said = z.said; proper = z.proper; words_true = z.words_true; sound = z.sound }

  pub cycle_keeps : (c : State κ) (m : List (List ℕ)) (s : List (ℕ × ℕ)) (μ : Manual κ.isa) (xs : List (ℕ × List ℕ)) (up : ℕ → Bool) → True (at_line m) xs → Agrees κ laws c m s μ →
      After κ laws (cycle κ c xs up) m s μ
  unfolding cycle with_lines events
  cycle_keeps c m s μ xs up t g = let z = body_keeps in
      record { safe = z.safe; small = z.small; outside = z.outside; inside = z.inside; many = z.many; cores = z.cores; said = z.said; proper = z.proper; words_true = z.words_true; sound = z.sound }
    where
      body_keeps : After κ laws (body κ xs up c) m s μ
      body_keeps = then_after κ laws (deliver κ xs) (rest κ up) c m s μ (open_keeps c m s μ xs t g)
          (then_keeps κ laws (take_all κ) (middle κ up) (each_keeps κ laws (take_due κ) 4 (λ k l c m s μ g. take_one_keeps c m s μ g k))
          (then_keeps κ laws (answer_all κ) (last κ up) (each_keeps κ laws (answer_probe κ) 4 (λ k l c m s μ g. answer_one_keeps c m s μ g k))
          (then_keeps κ laws (act_all κ up) (start_next κ) (each_keeps κ laws (act κ up) 4 (λ k l c m s μ g. act_one_keeps c m s μ g up k))
          (λ c m s μ g. start_at_keeps c m s μ g (next_start κ c)))))

  -- at the start
  start_small : (n k : ℕ) → n ≤ 4 → k < n → (ltb k 4 ≡ true) × (ltb k n ≡ true)
  start_small n k l h = (grind arith, grind arith)

  pub starts : (n : ℕ) (m : List (List ℕ)) → n ≤ 4 → Memory m → Agrees κ laws (fresh κ n (length m)) m [] (begins κ.isa n m)
  unfolding begins core
  starts n m l r = record {
    safe = record {
      tidy = record { mirror = λ p. refl; bound = λ k. tt; fair = λ k. tt; unheld = λ k a p e. absurd (false≢true e); alone = λ i j a e. absurd (false≢true e); shape = λ p. tt };
      coherent = record { single = λ p q a e. absurd (false≢true e); once = λ p q a i e. absurd (false≢true e); good = λ p. tt; stored = λ a e. refl };
    };
    small = l;
    outside = refl;
    inside = refl;
    many = fresh_many κ.isa 0 n;
    cores = λ k i. fresh_core κ.isa 0 n k _ i ∙ rw ((start_small n k l i).0, (start_small n k l i).1) (ap (λ (j : ℕ). record { cpu = κ.isa.start j; on = true }) (omega arith));
    said = refl;
    proper = r;
    words_true = r;
    sound = λ k i. rw (start_small n k l i).0 (laws.start_sound k (omega arith));
  }
