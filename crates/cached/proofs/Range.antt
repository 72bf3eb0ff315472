-- A cycle keeps the state in range, whatever else the words have.
use Rattle.std.proofs.Common.{◌≡◌, ℕ, zero, suc, ◌+◌, ◌/◌, ◌%◌, ◌<◌, ◌≤◌, Bool, true, false, not, ◌&&◌, ◌||◌, eqb, ltb, List, [], ◌∷◌, length, set, sym, refl, ◌∙◌, subst, arith, length-set}
use Rattle.rv32.specs.Did.{Did, goes, stores, says, stops}
use Rattle.cores.specs.Board.{Out}
use Rattle.cores.specs.Loop.{Step, each}
use Rattle.cores.specs.Machines.{Event}
use Rattle.cores.specs.Put.{put}
use Rattle.cores.proofs.Basics.{by_test, choose, less, not_less}
use Rattle.cached.specs.Soc.{State, around, stepped, with_lines_of, with_hints, with_turn, fresh, requeue, hand_on, share_on, drop_probe, lets_go, requeue_lead, answer, answer_probe, take_due, deliver, act, place_for, start_request, start_next, next_start, can_start, take_all, answer_all, act_all, body, turn_after, cycle}
use Rattle.directory.specs.Directory.{nobody, held, Request, idle, wants, queued, probing, fetching, free, question}
use Rattle.cached.specs.Kind.{Kind}
use Rattle.cached.specs.Lines.{Lines, takes, sets, releases, lowers, grants, asks, fills, stored, lines_after, delivered, deliver_one, deliver_all}
use Rattle.link.specs.Messages.{Grant, quiet, grant, filled, Probe, unasked, ask, all_unasked}
use Rattle.cached.specs.Range.{SlotFits, GrantFits, RequestFits, ProbeFits, LinesFit, Fits, Eights, StaysInRange}
use Rattle.cached.specs.Rv.{rv}
use Rattle.cache.specs.Slots.{Slot, empty, holds, has, words, raised, lowered, home, Found, missing, found, find}
use Rattle.cached.proofs.Base.{at_put, put_holds, clash}
use Rattle.cached.proofs.Cases.{act_cases}
use Rattle.cached.proofs.Steps.{find_place, chosen_core}

-- what holds of the new value, and of the old one, holds beyond the last place that is there
put_beyond : {A : Type 0} (f : ℕ → A) (k : ℕ) (v d : A) (n j : ℕ) → k < n → n ≤ j → f j ≡ d → put f k v j ≡ d
put_beyond {A} f k v d n j l b e = at_put (λ (z : A). z ≡ d) f k v j (λ i. absurd (omega arith)) (λ i. e)

raised_fits : (x : Slot) → SlotFits x → SlotFits (raised x)
raised_fits empty h = tt
raised_fits (holds a o d w) h = (h.0, λ e. clash refl e)

lowered_fits : (x : Slot) → SlotFits x → SlotFits (lowered x)
lowered_fits empty h = tt
lowered_fits (holds a o d w) h = (h.0, λ e. refl)

words_eight : (x : Slot) → SlotFits x → length (words x) ≡ 8
words_eight empty h = refl
words_eight (holds a o d w) h = h.0

-- the moves of lines
module _ (l : Lines) (h : LinesFit l) where
  take_fits : (k : ℕ) → k < 4 → LinesFit (takes k l)
  take_fits k n = record {
    slot = λ p. fill_slot (l.coming k) p (h.coming k);
    coming = λ j. put_holds GrantFits l.coming k quiet j tt (h.coming j);
    request = h.request;
    no_slot = λ p b. fill_none (l.coming k) p (h.coming k) b;
    no_entry = h.no_entry;
    no_coming = λ j b. put_beyond l.coming k quiet quiet 4 j n b (h.no_coming j b);
    no_request = h.no_request;
  }
    where
      fill_slot : (g : Grant) (p : ℕ) → GrantFits g → SlotFits (filled g l.slot p)
      fill_slot quiet p f = h.slot p
      fill_slot (grant q y) p f = put_holds SlotFits l.slot q y p f.1 (h.slot p)

      fill_none : (g : Grant) (p : ℕ) → GrantFits g → 256 ≤ p → filled g l.slot p ≡ empty
      fill_none quiet p f b = h.no_slot p b
      fill_none (grant q y) p f b = put_beyond l.slot q y empty 256 p f.0 b (h.no_slot p b)

  set_fits : (p : ℕ) (x : Slot) → p < 256 → SlotFits x → LinesFit (sets p x l)
  set_fits p x n f = record {
    slot = λ q. put_holds SlotFits l.slot p x q f (h.slot q);
    coming = h.coming;
    request = h.request;
    no_slot = λ q b. put_beyond l.slot p x empty 256 q n b (h.no_slot q b);
    no_entry = λ q b. put_beyond l.entry p _ nobody 256 q n b (h.no_entry q b);
    no_coming = h.no_coming;
    no_request = h.no_request;
  }

  grant_fits : (k p : ℕ) (x : Slot) → k < 4 → p < 256 → SlotFits x → LinesFit (grants k p x l)
  grant_fits k p x m n f = record {
    slot = h.slot;
    coming = λ j. put_holds GrantFits l.coming k (grant p x) j (n, f) (h.coming j);
    request = λ j. put_holds RequestFits l.request k idle j tt (h.request j);
    no_slot = h.no_slot;
    no_entry = λ q b. put_beyond l.entry p _ nobody 256 q n b (h.no_entry q b);
    no_coming = λ j b. put_beyond l.coming k (grant p x) quiet 4 j m b (h.no_coming j b);
    no_request = λ j b. put_beyond l.request k idle idle 4 j m b (h.no_request j b);
  }

  ask_fits : (k : ℕ) (r : Request) → k < 4 → RequestFits r → LinesFit (asks k r l)
  ask_fits k r m f = record {
    slot = h.slot;
    coming = h.coming;
    request = λ j. put_holds RequestFits l.request k r j f (h.request j);
    no_slot = h.no_slot;
    no_entry = h.no_entry;
    no_coming = h.no_coming;
    no_request = λ j b. put_beyond l.request k r idle 4 j m b (h.no_request j b);
  }

  fill_fits : (p a : ℕ) (w : List ℕ) → p < 256 → length w ≡ 8 → LinesFit (fills p a w l)
  fill_fits p a w n e = record {
    slot = λ q. put_holds SlotFits l.slot p (holds a true true w) q (e, λ i. clash refl i) (h.slot q);
    coming = h.coming;
    request = h.request;
    no_slot = λ q b. put_beyond l.slot p _ empty 256 q n b (h.no_slot q b);
    no_entry = h.no_entry;
    no_coming = h.no_coming;
    no_request = h.no_request;
  }

  after_fits : {Cpu : Type 0} (k : ℕ) (d : Did Cpu) → k < 4 → LinesFit (lines_after k d l)
  after_fits k (goes x) m = h
  after_fits k (says v x) m = h
  after_fits k stops m = h
  after_fits k (stores y v x) m = go (find l.slot k (y / 8)) refl
    where
      go : (r : Found) → find l.slot k (y / 8) ≡ r → LinesFit (stored r y v l)
      go missing e = h
      go (found p) e = fill_fits p (y / 8) (set (words (l.slot p)) (y % 8) v) (let z = (find_place l.slot k (y / 8) p e).0 in omega arith)
          (length-set (words (l.slot p)) (y % 8) v ∙ words_eight (l.slot p) (h.slot p))

  delivered_fits : (k a : ℕ) (w : List ℕ) → k < 4 → length w ≡ 8 → LinesFit (delivered k a w (l.request k) l)
  delivered_fits k a w m e = go (l.request k) (h.request k)
    where
      go : (r : Request) → RequestFits r → LinesFit (delivered k a w r l)
      go idle f = h
      go (wants b o p queued) f = h
      go (wants b o p probing) f = h
      go (wants b o p fetching) f = choose LinesFit (eqb b a) _ _ (λ u. grant_fits k p (holds b true false w) m f (e, λ i. refl)) (λ u. h)

one_fits : (k a : ℕ) (w : List ℕ) (l : Lines) → k ≤ 4 → length w ≡ 8 → LinesFit l → LinesFit (deliver_one k a w l)
unfolding deliver_one
one_fits zero a w l m e h = h
one_fits (suc k) a w l m e h = delivered_fits (deliver_one k a w l) (one_fits k a w l (omega arith) e h) k a w (omega arith) e

all_fits : (xs : List (ℕ × List ℕ)) (l : Lines) → Eights xs → LinesFit l → LinesFit (deliver_all 4 xs l)
unfolding deliver_all
all_fits [] l e h = h
all_fits (x ∷ xs) l e h = all_fits xs (deliver_one 4 x.0 x.1 l) e.1 (one_fits 4 x.0 x.1 l (omega arith) e.0 h)

around_small : (n t : ℕ) → n ≤ 4 → around n t < 4
around_small n t l = grind arith

module _ (κ : Kind) where
  -- other lines, and other hints of which only what is named changes
  lines_fit : (c : State κ) (l : Lines) → Fits κ c → LinesFit l → Fits κ (with_lines_of κ l c)
  lines_fit c l h f = record {
    count = h.count;
    turn = h.turn;
    lead = h.lead;
    sweep = h.sweep;
    probe = h.probe;
    lines = f;
    no_cpu = h.no_cpu;
    no_on = h.no_on;
    no_probe = h.no_probe;
    no_due = h.no_due;
    no_sweep = h.no_sweep;
  }

  probes_fit : (c : State κ) (t : ℕ → Probe) (j : ℕ) → Fits κ c → ((k : ℕ) → ProbeFits (t k)) → ((k : ℕ) → 4 ≤ k → t k ≡ unasked) → j < 4 →
      Fits κ (with_hints κ (record { probe = t; due = c.hints.due; lead = j; turn = c.hints.turn; way = c.hints.way; sweep = c.hints.sweep }) c)
  probes_fit c t j h f n l = record {
    count = h.count;
    turn = h.turn;
    lead = l;
    sweep = h.sweep;
    probe = f;
    lines = h.lines;
    no_cpu = h.no_cpu;
    no_on = h.no_on;
    no_probe = n;
    no_due = h.no_due;
    no_sweep = h.no_sweep;
  }

  sweep_fits : (c : State κ) (k s : ℕ) → k < 4 → s < 64 → Fits κ c →
      Fits κ (with_hints κ (record { probe = c.hints.probe; due = c.hints.due; lead = c.hints.lead; turn = c.hints.turn; way = c.hints.way; sweep = put c.hints.sweep k s }) c)
  sweep_fits c k s m l h = record {
    count = h.count;
    turn = h.turn;
    lead = h.lead;
    sweep = λ j. put_holds (λ x. x < 64) c.hints.sweep k s j l (h.sweep j);
    probe = h.probe;
    lines = h.lines;
    no_cpu = h.no_cpu;
    no_on = h.no_on;
    no_probe = h.no_probe;
    no_due = h.no_due;
    no_sweep = λ j b. put_beyond c.hints.sweep k s 0 4 j m b (h.no_sweep j b);
  }

  -- a core after an instruction or an interrupt
  core_fits : (c : State κ) (k : ℕ) (x : κ.isa.Cpu) (b : Bool) (l : Lines) → k < 4 → Fits κ c → LinesFit l →
      Fits κ (record { count = c.count; size = c.size; cpu = put c.cpu k x; on = put c.on k b; lines = l; hints = c.hints })
  core_fits c k x b l m h f = record {
    count = h.count;
    turn = h.turn;
    lead = h.lead;
    sweep = h.sweep;
    probe = h.probe;
    lines = f;
    no_cpu = λ j n. put_beyond c.cpu k x _ 4 j m n (h.no_cpu j n);
    no_on = λ j n. put_beyond c.on k b false 4 j m n (h.no_on j n);
    no_probe = h.no_probe;
    no_due = h.no_due;
    no_sweep = h.no_sweep;
  }

  abbrev Ok : State κ × Out → Type 0
  Ok r = Fits κ r.0

  each_fits : (f : ℕ → Step (State κ)) → ((k : ℕ) (c : State κ) → k < 4 → Fits κ c → Ok (f k c)) → (n : ℕ) (c : State κ) → n ≤ 4 → Fits κ c → Ok (each f n c)
  unfolding each
  each_fits f h zero c l g = g
  each_fits f h (suc n) c l g = h n (each f n c).0 (omega arith) (each_fits f h n c (omega arith) g)

  deliver_fits : (xs : List (ℕ × List ℕ)) (c : State κ) → Eights xs → Fits κ c → Ok (deliver κ xs c)
  deliver_fits xs c e h = record {
    count = h.count;
    turn = h.turn;
    lead = h.lead;
    sweep = h.sweep;
    probe = h.probe;
    lines = all_fits xs c.lines e h.lines;
    no_cpu = h.no_cpu;
    no_on = h.no_on;
    no_probe = h.no_probe;
    no_due = λ k b. rw (h.no_probe k b);
    no_sweep = h.no_sweep;
  }

  take_one_fits : (k : ℕ) (c : State κ) → k < 4 → Fits κ c → Ok (take_due κ k c)
  take_one_fits k c m h = choose Ok (c.hints.due k) _ _ (λ u. lines_fit c _ h (take_fits c.lines h.lines k m)) (λ u. h)

  -- answers
  requeue_fits : (j : ℕ) (r : Request) (c : State κ) → j < 4 → RequestFits r → Fits κ c → Ok (requeue κ j r c)
  requeue_fits j idle c m f h = h
  requeue_fits j (wants a o p queued) c m f h = h
  requeue_fits j (wants a o p fetching) c m f h = h
  requeue_fits j (wants a o p probing) c m f h = lines_fit c _ h (ask_fits c.lines h.lines j (wants a o p queued) m f)

  release_fits : (q : ℕ) (c : State κ) → q < 256 → Fits κ c → Fits κ (with_lines_of κ (releases q c.lines) c)
  release_fits q c n h = lines_fit c _ h (set_fits c.lines h.lines q empty n tt)

  lower_fits : (q : ℕ) (c : State κ) → q < 256 → Fits κ c → Fits κ (with_lines_of κ (lowers q c.lines) c)
  lower_fits q c n h = lines_fit c _ h (set_fits c.lines h.lines q (lowered (c.lines.slot q)) n (lowered_fits (c.lines.slot q) (h.lines.slot q)))

  hand_fits : (q a j : ℕ) (r : Request) (c : State κ) → q < 256 → j < 4 → RequestFits r → Fits κ c → Ok (hand_on κ q a j r c)
  hand_fits q a j idle c n m f h = release_fits q c n h
  hand_fits q a j (wants b o p queued) c n m f h = release_fits q c n h
  hand_fits q a j (wants b o p fetching) c n m f h = release_fits q c n h
  hand_fits q a j (wants b o p probing) c n m f h = choose Ok (eqb b a && free (put c.lines.entry q nobody) a 4) _ _
      (λ u. lines_fit c _ h (grant_fits (releases q c.lines) (set_fits c.lines h.lines q empty n tt) j p (raised (c.lines.slot q)) m f (raised_fits (c.lines.slot q) (h.lines.slot q))))
      (λ u. requeue_fits j (wants b o p probing) (with_lines_of κ (releases q c.lines) c) m f (release_fits q c n h))

  share_fits : (q a j : ℕ) (r : Request) (c : State κ) → q < 256 → j < 4 → RequestFits r → Fits κ c → Ok (share_on κ q a j r c)
  share_fits q a j idle c n m f h = lower_fits q c n h
  share_fits q a j (wants b o p queued) c n m f h = lower_fits q c n h
  share_fits q a j (wants b o p fetching) c n m f h = lower_fits q c n h
  share_fits q a j (wants b o p probing) c n m f h = choose Ok (eqb b a && not o) _ _
      (λ u. let z = lower_fits q c n h in lines_fit _ _ z (grant_fits (lowers q c.lines) z.lines j p (holds a false false (words (c.lines.slot q))) m f (words_eight (c.lines.slot q) (h.lines.slot q), λ i. refl)))
      (λ u. requeue_fits j (wants b o p probing) (with_lines_of κ (lowers q c.lines) c) m f (lower_fits q c n h))

  go_fits : (p a : ℕ) (o : Bool) (c : State κ) → p < 256 → Fits κ c → Ok (lets_go κ p a o c)
  go_fits p a true c n h = choose Ok (all_unasked c.hints.probe && c.on c.hints.lead) _ _
      (λ u. hand_fits p a c.hints.lead (c.lines.request c.hints.lead) c n h.lead (h.lines.request c.hints.lead) h) (λ u. release_fits p c n h)
  go_fits p a false c n h = choose Ok (all_unasked c.hints.probe) _ _
      (λ u. share_fits p a c.hints.lead (c.lines.request c.hints.lead) c n h.lead (h.lines.request c.hints.lead) h) (λ u. lower_fits p c n h)

  lead_fits : (c : State κ) → Fits κ c → Ok (requeue_lead κ c)
  lead_fits c h = choose Ok (all_unasked c.hints.probe) _ _
      (λ u. requeue_fits c.hints.lead (c.lines.request c.hints.lead) c h.lead (h.lines.request c.hints.lead) h) (λ u. h)

  drop_fits : (k : ℕ) (c : State κ) → k < 4 → Fits κ c → Ok (drop_probe κ k c)
  drop_fits k c m h = probes_fit c (put c.hints.probe k unasked) c.hints.lead h (λ j. put_holds ProbeFits c.hints.probe k unasked j tt (h.probe j))
      (λ j b. put_beyond c.hints.probe k unasked unasked 4 j m b (h.no_probe j b)) h.lead

  answer_fits : (k : ℕ) (t : Probe) (c : State κ) → k < 4 → ProbeFits t → Fits κ c → Ok (answer κ k t c)
  answer_fits k unasked c m f h = h
  answer_fits k (ask p a o) c m f h = let z = drop_fits k c m h in
      choose Ok (has (c.lines.slot p) a) _ _ (λ u. lead_fits (lets_go κ p a o (drop_probe κ k c).0).0 (go_fits p a o (drop_probe κ k c).0 f z)) (λ u. lead_fits (drop_probe κ k c).0 z)

  answer_one_fits : (k : ℕ) (c : State κ) → k < 4 → Fits κ c → Ok (answer_probe κ k c)
  answer_one_fits k c m h = choose Ok (c.hints.due k) _ _ (λ u. h) (λ u. answer_fits k (c.hints.probe k) c m (h.probe k) h)

  -- cores act
  place_small : (p k : ℕ) → p / 64 ≡ k → k < 4 → p < 256
  place_small p k e m = omega arith

  act_fits : (up : ℕ → Bool) (k : ℕ) (c : State κ) → k < 4 → Fits κ c → Ok (act κ up k c)
  act_fits up k c m h = act_cases κ up k c Ok (record {
    none = λ w. h;
    interrupts = λ l o w i. core_fits c k _ true c.lines m h h.lines;
    does = λ o w. core_fits c k _ _ _ m h (after_fits c.lines h.lines k _ m);
    sends = λ a o w n s i q. let p = place_small (place_for κ c k a) k (chosen_core c.lines.slot k a _) m in
        lines_fit c _ h (ask_fits (releases (place_for κ c k a) c.lines) (set_fits c.lines h.lines (place_for κ c k a) empty p tt) k (wants a o (place_for κ c k a) queued) m p);
    sweeping = λ q x o w e. sweep_fits (with_lines_of κ (releases q c.lines) c) k ((c.hints.sweep k + 1) % 64) m (omega arith) (release_fits q c (place_small q k e m) h);
    swept = λ x o w. sweep_fits c k ((c.hints.sweep k + 1) % 64) m (omega arith) h;
  })

  -- a request is started
  abbrev Small : ℕ → Type 0
  Small k = k < 4

  next_small : (c : State κ) → Fits κ c → Small (next_start κ c)
  next_small c h =
      let t = c.hints.turn in
      let u = around c.count (suc t) in
      let v = around c.count (suc u) in
      choose Small (can_start κ c t) t _ (λ e. h.turn) (λ e. choose Small (can_start κ c u) u _ (λ e. around_small c.count (suc t) h.count)
      (λ e. choose Small (can_start κ c v) v _ (λ e. around_small c.count (suc u) h.count) (λ e. around_small c.count (suc v) h.count)))

  module _ (c : State κ) (h : Fits κ c) where
    -- probes go to cores that are there, and to places that are there
    question_none : (a : ℕ) (o : Bool) (j : ℕ) → 4 ≤ j → question c.lines.entry a o j ≡ unasked
    question_none a o j l = rw (h.lines.no_entry (home j a) (beyond j a l).0, h.lines.no_entry (suc (home j a)) (beyond j a l).1)
      where
        beyond : (j a : ℕ) → 4 ≤ j → (256 ≤ home j a) × (256 ≤ suc (home j a))
        beyond j a l = (omega arith, omega arith)

    question_fits : (a : ℕ) (o : Bool) (j : ℕ) → ProbeFits (question c.lines.entry a o j)
    question_fits a o j = by_test (ltb j 4)
        (λ e. let z = place_of j a (less j 4 e) in choose ProbeFits (held (c.lines.entry (home j a)) a) _ _ (λ u. z.0) (λ u. choose ProbeFits (held (c.lines.entry (suc (home j a))) a) _ _ (λ v. z.1) (λ v. tt)))
        (λ e. subst ProbeFits (sym (question_none a o j (not_less j 4 e))) tt)
      where
        place_of : (j a : ℕ) → j < 4 → (home j a < 256) × (suc (home j a) < 256)
        place_of j a l = (omega arith, omega arith)

    started_fits : (k : ℕ) (r : Request) → k < 4 → RequestFits r → Ok (start_request κ k r c)
    started_fits k idle m f = h
    started_fits k (wants a o p probing) m f = h
    started_fits k (wants a o p fetching) m f = h
    started_fits k (wants a o p queued) m f = choose Ok (free c.lines.entry a 4) _ _
        (λ v. lines_fit c _ h (ask_fits c.lines h.lines k (wants a o p fetching) m f))
        (λ v. probes_fit (with_lines_of κ (asks k (wants a o p probing) c.lines) c) (question c.lines.entry a o) k
        (lines_fit c _ h (ask_fits c.lines h.lines k (wants a o p probing) m f)) (question_fits a o) (question_none a o) m)

    start_fits : Ok (start_next κ c)
    start_fits = choose Ok (can_start κ c (next_start κ c)) _ _ (λ u. started_fits (next_start κ c) (c.lines.request (next_start κ c)) (next_small c h) (h.lines.request (next_start κ c))) (λ u. h)

    -- the turn passes
    turn_fits : (t : ℕ) → t < 4 → Fits κ (with_hints κ (with_turn t c.hints) c)
    turn_fits t l = record {
      count = h.count;
      turn = l;
      lead = h.lead;
      sweep = h.sweep;
      probe = h.probe;
      lines = h.lines;
      no_cpu = h.no_cpu;
      no_on = h.no_on;
      no_probe = h.no_probe;
      no_due = h.no_due;
      no_sweep = h.no_sweep;
    }

    turn_small : (es : List Event) → Small (turn_after κ es c)
    turn_small es = choose Small (stepped c.hints.turn es || not (c.on c.hints.turn)) _ _ (λ e. around_small c.count (suc c.hints.turn) h.count) (λ e. h.turn)

  cycle_fits : (c : State κ) (xs : List (ℕ × List ℕ)) (up : ℕ → Bool) → Eights xs → Fits κ c → Fits κ (cycle κ c xs up).0
  unfolding cycle
  cycle_fits c xs up e h =
      let c₁ : Fits κ (deliver κ xs c).0 = deliver_fits xs c e h in
      let c₂ : Fits κ (take_all κ (deliver κ xs c).0).0 = each_fits (take_due κ) take_one_fits 4 _ (omega arith) c₁ in
      let c₃ : Fits κ (answer_all κ (take_all κ (deliver κ xs c).0).0).0 = each_fits (answer_probe κ) answer_one_fits 4 _ (omega arith) c₂ in
      let c₄ : Fits κ (act_all κ up (answer_all κ (take_all κ (deliver κ xs c).0).0).0).0 = each_fits (act κ up) (act_fits up) 4 _ (omega arith) c₃ in
      let d : Fits κ (body κ xs up c).0 = start_fits _ c₄ in
      turn_fits (body κ xs up c).0 d (turn_after κ (body κ xs up c).1.did (body κ xs up c).0) (turn_small (body κ xs up c).0 d (body κ xs up c).1.did)

  new_fits : (n size : ℕ) → n ≤ 4 → Fits κ (fresh κ n size)
  new_fits n size l = record {
    count = l;
    turn = omega arith;
    lead = omega arith;
    sweep = λ k. omega arith;
    probe = λ k. tt;
    lines = record {
      slot = λ p. tt;
      coming = λ k. tt;
      request = λ k. tt;
      no_slot = λ p b. refl;
      no_entry = λ p b. refl;
      no_coming = λ k b. refl;
      no_request = λ k b. refl;
    };
    no_cpu = λ k b. rw (past 4 k b);
    no_on = λ k b. past n k (omega arith);
    no_probe = λ k b. refl;
    no_due = λ k b. refl;
    no_sweep = λ k b. refl;
  }
    where
      past : (n k : ℕ) → n ≤ k → ltb k n ≡ false
      past n k l = grind arith

pub stays_in_range : StaysInRange
stays_in_range = record { new = new_fits rv; kept = cycle_fits rv }
