-- What each part of a cycle keeps: agreement, and what holds of probes and requests.
use Rattle.std.proofs.Common.{◌≡◌, ℕ, zero, suc, ◌/◌, ◌<◌, Bool, true, false, eqb, ◌≢◌, ◌⊎◌, List, [], ◌∷◌, sym, refl, ap, ◌∙◌, arith}
use Rattle.rv32.specs.Did.{Did, goes, says, stops, stores}
use Rattle.cores.specs.Loop.{Step, each}
use Rattle.cores.specs.Machines.{Manual}
use Rattle.cores.specs.Put.{put}
use Rattle.cores.proofs.Basics.{choose}
use Rattle.cached.specs.Soc.{State, act, answer_probe, way_for, next_start, start_next}
use Rattle.cached.specs.Coherent.{Fair, Safe, Tidy, view}
use Rattle.directory.specs.Directory.{Request, busy, fetching, held, idle, is_idle, nobody, probing, queued, tag, wants}
use Rattle.cached.specs.Kind.{Kind, Laws}
use Rattle.cached.specs.Lines.{stored, Lines, deliver_all, deliver_one, delivered, lines_after}
use Rattle.link.specs.Messages.{Probe, all_unasked, ask, is_unasked, unasked}
use Rattle.cached.specs.Rank.{Asked, Live, is_probing}
use Rattle.cache.specs.Slots.{home, Found, Slot, cached, chosen, empty, find, found, has, lowered, missing}
use Rattle.cached.proofs.Agrees.{After, Agrees, home_of, which_place}
use Rattle.cached.proofs.Base.{at_put, clash, both}
use Rattle.cached.proofs.Cases.{Deeds, Starts, Ways, act_cases, answer_cases, start_cases}
use Rattle.cached.proofs.CycleAgrees.{act_one_keeps, answer_one_keeps, start_at_keeps}
use Rattle.cached.proofs.Facts.{tag_held, small_unasked}
use Rattle.cached.proofs.Probes.{come_live, more_live, queue_live, release_live, start_live, still_live}
use Rattle.cached.proofs.Steps.{True, deliver_one_safe, chosen_core}

-- who is to answer in this cycle has the line, at a place of its own
abbrev pub Ready : (ℕ → Bool) → (ℕ → Slot) → (ℕ → Probe) → Type 0
Ready due f t = (k p a : ℕ) (o : Bool) → due k ≡ false → t k ≡ ask p a o → (has (f p) a ≡ true) × (p / 64 ≡ k)

told_other : (t : ℕ → Probe) (k i p a : ℕ) (o : Bool) → put t k unasked i ≡ ask p a o → (i ≢ k) × (t i ≡ ask p a o)
told_other t k i p a o e = at_put (λ z. z ≡ ask p a o → (i ≢ k) × (t i ≡ ask p a o)) t k unasked i (λ j h. not_ask h) (λ n h. (n, h)) e
  where
    not_ask : unasked ≡ ask p a o → (i ≢ k) × (t i ≡ ask p a o)
    not_ask h = let z : ◌≡◌ {A = ℕ} 0 1 = cc in absurd (omega arith)

far_place : (f : ℕ → Slot) (p q k i : ℕ) (x : Slot) → i ≢ k → p / 64 ≡ i → q / 64 ≡ k → put f q x p ≡ f p
far_place f p q k i x n e h = at_put (λ z. z ≡ f p) f q x p (λ j. absurd (n (sym e ∙ ap (λ (y : ℕ). y / 64) j ∙ h))) (λ j. refl)

pub ready_turn : (due : ℕ → Bool) (f : ℕ → Slot) (t : ℕ → Probe) (k q : ℕ) (x : Slot) → q / 64 ≡ k → Ready due f t → Ready due (put f q x) (put t k unasked)
ready_turn due f t k q x h r i p a o n e = let z = told_other t k i p a o e in let y = r i p a o n z.1 in
    (ap (λ (s : Slot). has s a) (far_place f p q k i x z.0 y.1 h) ∙ y.0, y.1)

module _ (κ : Kind) where
  -- a property of the chip that each of a row of steps keeps, where another holds all the time
  pub each_with : (f : ℕ → Step (State κ)) (B : State κ → Type 0) (P : ℕ → State κ → Type 0) → ((k : ℕ) (c : State κ) → B c → B (f k c).0) → ((k : ℕ) (c : State κ) → B c → P k c → P (suc k) (f k c).0) →
      (n : ℕ) (c : State κ) → B c → P 0 c → B (each f n c).0 × P n (each f n c).0
  unfolding each
  each_with f B P b p zero c x y = (x, y)
  each_with f B P b p (suc n) c x y = let z = each_with f B P b p n c x y in (b n _ z.0, p n _ z.0 z.1)

module _ (κ : Kind) (laws : Laws κ) where
  -- the chip agrees with some board and manual
  pub record Sound (c : State κ) : Type 0 where
    pub outside : List (List ℕ)
    pub spoken : List (ℕ × ℕ)
    pub manual : Manual κ.isa
    pub agrees : Agrees κ laws c outside spoken manual

  pub sound_step : (f : Step (State κ)) (c : State κ) → ((m : List (List ℕ)) (s : List (ℕ × ℕ)) (μ : Manual κ.isa) → Agrees κ laws c m s μ → After κ laws (f c) m s μ) → Sound c → Sound (f c).0
  sound_step f c h s = record { outside = _; spoken = _; manual = _; agrees = h s.outside s.spoken s.manual s.agrees }

  abbrev pub Lively : State κ → Type 0
  Lively c = Live c.lines.entry c.lines.request c.hints.probe c.hints.lead

  -- a probe to a core that there is not
  module _ (c : State κ) (s : Sound c) (v : Lively c) where
    abbrev tidy : Tidy c.size c.lines
    tidy = s.agrees.safe.tidy

    pub asked_small : (k : ℕ) → is_unasked (c.hints.probe k) ≡ false → k < 4
    asked_small k n = go (c.hints.probe k) (v.asked k) n
      where
        go : (t : Probe) → Asked c.lines.entry (c.lines.request c.hints.lead) k t → is_unasked t ≡ false → k < 4
        go unasked h n = clash refl n
        go (ask p a o) h n = let z = (home_of κ laws c.size a p (c.lines.entry p) (tidy.shape p) h.1).0 in let y : p / 64 ≡ k = h.0 in omega arith

    pub every_unasked : (k : ℕ) → all_unasked (put c.hints.probe k unasked) ≡ true → (i : ℕ) → is_unasked (put c.hints.probe k unasked i) ≡ true
    every_unasked k u i = at_put (λ z. is_unasked z ≡ true) c.hints.probe k unasked i (λ e. refl) (λ n. go n (is_unasked (c.hints.probe i)) refl)
      where
        there : i ≢ k → is_unasked (put c.hints.probe k unasked i) ≡ true → is_unasked (c.hints.probe i) ≡ true
        there n h = at_put (λ z. is_unasked z ≡ true → is_unasked (c.hints.probe i) ≡ true) c.hints.probe k unasked i (λ e. absurd (n e)) (λ m z. z) h

        go : i ≢ k → (b : Bool) → is_unasked (c.hints.probe i) ≡ b → b ≡ true
        go n true e = refl
        go n false e = clash (there n (small_unasked (put c.hints.probe k unasked) i (asked_small i e) u)) e

    pub nobody_probes : all_unasked c.hints.probe ≡ true → (i : ℕ) → is_probing (c.lines.request i) ≡ false
    nobody_probes u i = go (is_probing (c.lines.request i)) refl
      where
        go : (b : Bool) → is_probing (c.lines.request i) ≡ b → b ≡ false
        go true e = clash u (v.some (rw (← (v.one i e)) e))
        go false e = refl

    -- once the request that asked does not any more, none does
    pub none_probes : (x : Request) → is_probing x ≡ false → (i : ℕ) → is_probing (put c.lines.request c.hints.lead x i) ≡ false
    none_probes x n i = at_put (λ z. is_probing z ≡ false) c.lines.request c.hints.lead x i (λ e. n) (λ m. go m (is_probing (c.lines.request i)) refl)
      where
        go : i ≢ c.hints.lead → (b : Bool) → is_probing (c.lines.request i) ≡ b → b ≡ false
        go m true e = absurd (m (v.one i e))
        go m false e = refl

  -- answers
  pub record Answering (c : State κ) : Type 0 where
    pub sound : Sound c
    pub live : Lively c
    pub ready : Ready c.hints.due c.lines.slot c.hints.probe

  module _ (k : ℕ) (c : State κ) (b : Answering c) where
    here : c.hints.due k ≡ false → (p a : ℕ) (o : Bool) → c.hints.probe k ≡ ask p a o → has (c.lines.slot p) a ≡ true
    here n p a o e = (b.ready k p a o n e).0

    live_ways : Ways κ c Lively b.live k
    live_ways = record {
      none = λ n. b.live;
      more = λ n p a o x e h i u. more_live c.lines.entry c.lines.request c.hints.probe c.hints.lead k p a o (tag x) e (λ j. ap tag (i j)) u b.live;
      on_write = λ n p a s e h r u. still_live _ _ _ _ (every_unasked c b.sound b.live k u) (none_probes c b.sound b.live idle refl);
      on_read = λ n p a s e h r u. still_live _ _ _ _ (every_unasked c b.sound b.live k u) (none_probes c b.sound b.live idle refl);
      off = λ n p a s e h r u o. still_live _ _ _ _ (every_unasked c b.sound b.live k u) (none_probes c b.sound b.live (wants a true s queued) refl);
    }

    ready_ways : Ways κ c (λ d. Ready d.hints.due d.lines.slot d.hints.probe) b.live k
    ready_ways = record {
      none = λ n. b.ready;
      more = λ n p a o x e h i u. ready_turn c.hints.due c.lines.slot c.hints.probe k p x (b.ready k p a o n e).1 b.ready;
      on_write = λ n p a s e h r u. ready_turn c.hints.due c.lines.slot c.hints.probe k p empty (b.ready k p a true n e).1 b.ready;
      on_read = λ n p a s e h r u. ready_turn c.hints.due c.lines.slot c.hints.probe k p (lowered (c.lines.slot p)) (b.ready k p a false n e).1 b.ready;
      off = λ n p a s e h r u o. ready_turn c.hints.due c.lines.slot c.hints.probe k p empty (b.ready k p a true n e).1 b.ready;
    }

    pub answering_kept : Answering (answer_probe κ k c).0
    answering_kept = record {
      sound = sound_step (answer_probe κ k) c (λ m s μ g. answer_one_keeps κ laws c m s μ g k) b.sound;
      live = answer_cases κ c Lively b.live k live_ways here;
      ready = answer_cases κ c (λ d. Ready d.hints.due d.lines.slot d.hints.probe) b.live k ready_ways here;
    }

  -- cores act
  pub finish_lines : (k : ℕ) (d : Did κ.isa.Cpu) (l : Lines) → ((lines_after k d l).entry ≡ l.entry) × ((lines_after k d l).request ≡ l.request) × ((lines_after k d l).coming ≡ l.coming)
  finish_lines k (goes x) l = (refl, refl, refl)
  finish_lines k (says v x) l = (refl, refl, refl)
  finish_lines k stops l = (refl, refl, refl)
  finish_lines k (stores y v x) l = go (find l.slot k (y / 8))
    where
      go : (r : Found) → ((stored r y v l).entry ≡ l.entry) × ((stored r y v l).request ≡ l.request) × ((stored r y v l).coming ≡ l.coming)
      go missing = (refl, refl, refl)
      go (found p) = (refl, refl, refl)

  pub record Acting (c : State κ) : Type 0 where
    pub sound : Sound c
    pub live : Lively c

  idle_quiet : (q : Request) → is_idle q ≡ true → is_probing q ≡ false
  idle_quiet q e = grind arith

  module _ (up : ℕ → Bool) (k : ℕ) (c : State κ) (b : Acting c) where
    live_deeds : Deeds κ up k c (λ r. Lively r.0)
    live_deeds = record {
      none = λ h. b.live;
      interrupts = λ l o w h. b.live;
      does = λ o h. let z = finish_lines k (κ.isa.one c.size (c.cpu k) (cached c.lines.slot k)) c.lines in rw (z.0, z.1) b.live;
      sends = λ a o h n s i q. queue_live (put c.lines.entry (chosen (find c.lines.slot k a) k a (way_for κ c k a)) nobody) c.lines.request c.hints.probe c.hints.lead k _ (idle_quiet (c.lines.request k) i) refl
          (release_live c.lines.entry c.lines.request c.hints.probe c.hints.lead _ (rw (chosen_core c.lines.slot k a (way_for κ c k a)) (both s).1) b.live);
      sweeping = λ q x o h e. release_live c.lines.entry c.lines.request c.hints.probe c.hints.lead q (rw e (both h).1) b.live;
      swept = λ x o h. b.live;
    }

    pub acting_kept : Acting (act κ up k c).0
    acting_kept = record {
      sound = sound_step (act κ up k) c (λ m s μ g. act_one_keeps κ laws c m s μ g up k) b.sound;
      live = act_cases κ up k c (λ r. Lively r.0) live_deeds;
    }

  -- a request is started
  queued_still : (q : Request) (a p : ℕ) (o : Bool) → q ≡ wants a o p queued → is_probing q ≡ false
  queued_still q a p o e = rw e

  module _ (c : State κ) (b : Acting c) where
    pub once_held : (p q a : ℕ) → p / 64 ≡ q / 64 → held (c.lines.entry p) a ≡ true → held (c.lines.entry q) a ≡ true → p ≡ q
    once_held p q a e u v = let g = b.sound.agrees.safe in
        g.coherent.once p q a e (tag_held (view c.lines p) (c.lines.entry p) a (g.tidy.mirror p) u) (tag_held (view c.lines q) (c.lines.entry q) a (g.tidy.mirror q) v)

    pub place_held : (p a : ℕ) → held (c.lines.entry p) a ≡ true → (p ≡ home (p / 64) a) ⊎ (p ≡ suc (home (p / 64) a))
    place_held p a u = which_place κ laws a (p / 64) p (home_of κ laws c.size a p (c.lines.entry p) (b.sound.agrees.safe.tidy.shape p) u).1 refl

    live_starts : Starts κ c (λ d v. Lively d)
    live_starts = record {
      none = λ n. b.live;
      fetch = λ k a p o e u f first. queue_live c.lines.entry c.lines.request c.hints.probe c.hints.lead k (wants a o p fetching) (queued_still (c.lines.request k) a p o e) refl b.live;
      probe = λ k a p o e u f t g first. start_live c.lines.entry c.lines.request c.hints.probe c.hints.lead k a p o f t (λ q. place_held q a) (λ q s. once_held q s a) b.live;
    }

    pub starting_kept : Acting (start_next κ c).0
    starting_kept = record {
      sound = sound_step (start_next κ) c (λ m s μ g. start_at_keeps κ laws c m s μ g (next_start κ c)) b.sound;
      live = start_cases κ c (λ d v. Lively d) live_starts;
    }

  -- lines come
  fetching_still : (q : Request) (a p : ℕ) (o : Bool) → q ≡ wants a o p fetching → (is_probing q ≡ false) × (busy q a ≡ true)
  fetching_still q a p o e = (rw e, rw e (grind arith))

  not_busy : (r : ℕ → Request) (j k a : ℕ) → busy (r k) a ≡ true → (busy (r j) a ≡ true → busy (r k) a ≡ true → j ≡ k) → busy (put r k idle j) a ≡ false
  not_busy r j k a h f = grind arith

  delivered_live : (n k a : ℕ) (w : List ℕ) (l : Lines) (t : ℕ → Probe) (j : ℕ) → Tidy n l → Live l.entry l.request t j → Live (delivered k a w (l.request k) l).entry (delivered k a w (l.request k) l).request t j
  delivered_live n k a w l t j y v = go (l.request k) refl (y.fair k)
    where
      go : (r : Request) → l.request k ≡ r → Fair n l.entry l.coming k r → Live (delivered k a w r l).entry (delivered k a w r l).request t j
      go idle e f = v
      go (wants b o p queued) e f = v
      go (wants b o p probing) e f = v
      go (wants b o p fetching) e f = choose (λ (x : Lines). Live x.entry x.request t j) (eqb b a) _ _
          (λ u. come_live l.entry (put l.request k idle) t j p b true f.vacant (not_busy l.request j k b (fetching_still (l.request k) b p o e).1 (y.alone j k b))
          (queue_live l.entry l.request t j k idle (fetching_still (l.request k) b p o e).0 refl v))
          (λ u. v)

  deliver_one_live : (n k a : ℕ) (w : List ℕ) (l : Lines) (m tr : ℕ → List ℕ) (t : ℕ → Probe) (j : ℕ) → w ≡ m a → Safe n l m tr → Live l.entry l.request t j →
      Live (deliver_one k a w l).entry (deliver_one k a w l).request t j
  unfolding deliver_one
  deliver_one_live n zero a w l m tr t j i s v = v
  deliver_one_live n (suc k) a w l m tr t j i s v = delivered_live n k a w (deliver_one k a w l) t j (deliver_one_safe n k a w l m tr i s).tidy (deliver_one_live n k a w l m tr t j i s v)

  pub deliver_live : (n k : ℕ) (xs : List (ℕ × List ℕ)) (l : Lines) (m tr : ℕ → List ℕ) (t : ℕ → Probe) (j : ℕ) → True m xs → Safe n l m tr → Live l.entry l.request t j →
      Live (deliver_all k xs l).entry (deliver_all k xs l).request t j
  unfolding deliver_all
  deliver_live n k [] l m tr t j i s v = v
  deliver_live n k (x ∷ xs) l m tr t j i s v = deliver_live n k xs (deliver_one k x.0 x.1 l) m tr t j i.1 (deliver_one_safe n k x.0 x.1 l m tr i.0 s) (deliver_one_live n k x.0 x.1 l m tr t j i.0 s v)
