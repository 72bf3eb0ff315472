-- What the steps of a cycle come to, given what holds of probes and requests: a case principle for each, for any property of the chip.
use Rattle.std.proofs.Common.{◌≡◌, ℕ, suc, ◌+◌, ◌*◌, ◌/◌, ◌%◌, ◌<◌, Bool, true, false, not, ◌&&◌, ◌||◌, eqb, ltb, ◌≢◌, List, [], ◌∷◌, refl, arith}
use Rattle.cores.specs.Board.{Out}
use Rattle.cores.specs.Loop.{silent, then}
use Rattle.cores.specs.Put.{put}
use Rattle.cores.proofs.Basics.{choose, same, less}
use Rattle.cached.specs.Soc.{State, act, answer, answer_probe, way_for, can_start, execute, release, drop_probe, hint, take_interrupt, lets_go, may_send, lacked, send_request, requeue, startable, start_request, start_at, start_next, stay, attempt, requeue_lead, with_lead, with_hints, with_lines_of, with_sweep, with_probes}
use Rattle.directory.specs.Directory.{Entry, Request, fetching, free, held, idle, is_idle, keeps, nobody, probing, question, queued, unhurried, wants}
use Rattle.cached.specs.Kind.{Kind}
use Rattle.cached.specs.Lines.{Lines, asks, grants, lowers, releases, sets}
use Rattle.link.specs.Messages.{Probe, all_unasked, ask, is_quiet, is_unasked, unasked}
use Rattle.cached.specs.Rank.{Asked, Live, alike, is_probing, probes}
use Rattle.cache.specs.Slots.{home, lacks, Lack, Slot, cached, chosen, empty, find, has, holds, is_empty, lowered, raised, ready, words}
use Rattle.cached.proofs.Base.{at_put, clash, both, three}
use Rattle.cached.proofs.Facts.{small_unasked}

-- the request that a probe is for
pub probes_shape : (q : Request) (a : ℕ) (o : Bool) → probes q a o ≡ true → (s : ℕ) × (q ≡ wants a o s probing)
probes_shape idle a o h = clash h refl
probes_shape (wants b u s queued) a o h = clash h refl
probes_shape (wants b u s fetching) a o h = clash h refl
probes_shape (wants b u s probing) a o h = (s, rw (same b a (both {x = eqb b a} {y = alike u o} h).0, alike_says u o (both {x = eqb b a} {y = alike u o} h).1))
  where
    alike_says : (u o : Bool) → alike u o ≡ true → u ≡ o
    alike_says u o e = grind arith

-- when the last holder answers, nobody has the line any more
module _ (e : ℕ → Entry) (r : ℕ → Request) (t : ℕ → Probe) (j k p a : ℕ) (live : Live e r t j) (said : t k ≡ ask p a true) (over : all_unasked (put t k unasked) ≡ true) where
  gone_at : (q : ℕ) → q / 64 < 4 → held (put e p nobody q) a ≡ false
  gone_at q l = at_put (λ z. held z a ≡ false) e p nobody q (λ i. refl) (λ n. other n (held (e q) a) refl)
    where
      asks_same : (q : ℕ) → t (q / 64) ≡ ask q a true → is_unasked (put t k unasked (q / 64)) ≡ true → q ≡ p
      asks_same q h u = at_put (λ z. is_unasked z ≡ true → q ≡ p) t k unasked (q / 64) (λ i z. place (rw i at h)) (λ i z. clash (rw h at z) refl) u
        where
          place : t k ≡ ask q a true → q ≡ p
          place h = cc

      probes_it : (q : ℕ) → Asked e (r j) k (t k) → probes (r j) a true ≡ true
      probes_it q h = (rw said at h).2

      other : q ≢ p → (b : Bool) → held (e q) a ≡ b → b ≡ false
      other n true h = absurd (n (asks_same q (live.all q a (probes_it q (live.asked k)) h) (small_unasked (put t k unasked) (q / 64) l over)))
      other n false h = refl

  pub free_last : free (put e p nobody) a 4 ≡ true
  unfolding free
  free_last = rw (
    gone_at (home 3 a) (omega arith),
    gone_at (suc (home 3 a)) (omega arith),
    gone_at (home 2 a) (omega arith),
    gone_at (suc (home 2 a)) (omega arith),
    gone_at (home 1 a) (omega arith),
    gone_at (suc (home 1 a)) (omega arith),
    gone_at (home 0 a) (omega arith),
    gone_at (suc (home 0 a)) (omega arith),
  )

module _ (κ : Kind) where
  -- the chip after core k was heard
  abbrev pub heard : ℕ → Lines → State κ → State κ
  heard k l c = with_lines_of κ l (with_hints κ (with_probes (put c.hints.probe k unasked) c.hints) c)

  module _ (c : State κ) (P : State κ → Type 0) (live : Live c.lines.entry c.lines.request c.hints.probe c.hints.lead) (k : ℕ) where
    abbrev t : ℕ → Probe
    t = c.hints.probe

    abbrev j : ℕ
    j = c.hints.lead

    -- an answer, in four ways: others have still to answer; the line goes on to write, or to read; or the core that wanted it has stopped
    pub record Ways : Type 0 where
      pub none : (c.hints.due k ≡ false → is_unasked (t k) ≡ true) → P c
      pub more : c.hints.due k ≡ false → (p a : ℕ) (o : Bool) (x : Slot) → t k ≡ ask p a o → has (c.lines.slot p) a ≡ true → (o ≡ true → x ≡ empty) → all_unasked (put t k unasked) ≡ false → P (heard k (sets p x c.lines) c)
      pub on_write : c.hints.due k ≡ false → (p a s : ℕ) → t k ≡ ask p a true → has (c.lines.slot p) a ≡ true → c.lines.request j ≡ wants a true s probing → all_unasked (put t k unasked) ≡ true →
          P (heard k (grants j s (raised (c.lines.slot p)) (releases p c.lines)) c)
      pub on_read : c.hints.due k ≡ false → (p a s : ℕ) → t k ≡ ask p a false → has (c.lines.slot p) a ≡ true → c.lines.request j ≡ wants a false s probing → all_unasked (put t k unasked) ≡ true →
          P (heard k (grants j s (holds a false false (words (c.lines.slot p))) (lowers p c.lines)) c)
      pub off : c.hints.due k ≡ false → (p a s : ℕ) → t k ≡ ask p a true → has (c.lines.slot p) a ≡ true → c.lines.request j ≡ wants a true s probing → all_unasked (put t k unasked) ≡ true → c.on j ≡ false →
          P (heard k (asks j (wants a true s queued) (releases p c.lines)) c)

    module _ (w : Ways) (here : c.hints.due k ≡ false → (p a : ℕ) (o : Bool) → t k ≡ ask p a o → has (c.lines.slot p) a ≡ true) where
      abbrev d : State κ
      d = (drop_probe κ k c).0

      abbrev Q : State κ × Out → Type 0
      Q r = P r.0

      abbrev U : State κ × Out → Type 0
      U r = P (requeue_lead κ r.0).0

      requeue_idle : (x : State κ) (q : Request) → is_probing q ≡ false → P x → P (requeue κ x.hints.lead q x).0
      requeue_idle x idle n h = h
      requeue_idle x (wants a o s queued) n h = h
      requeue_idle x (wants a o s fetching) n h = h
      requeue_idle x (wants a o s probing) n h = clash refl n

      idle_now : (x : State κ) → is_probing (x.lines.request x.hints.lead) ≡ false → P x → P (requeue_lead κ x).0
      idle_now x n h = choose Q (all_unasked x.hints.probe) _ _ (λ u. requeue_idle x (x.lines.request x.hints.lead) n h) (λ u. h)

      still_asked : (x : State κ) → all_unasked x.hints.probe ≡ false → P x → P (requeue_lead κ x).0
      still_asked x n h = choose Q (all_unasked x.hints.probe) _ _ (λ u. clash u n) (λ u. h)

      queued_again : (x : State κ) (a s : ℕ) (o : Bool) → all_unasked x.hints.probe ≡ true → x.lines.request x.hints.lead ≡ wants a o s probing →
          P (with_lines_of κ (asks x.hints.lead (wants a o s queued) x.lines) x) → P (requeue_lead κ x).0
      queued_again x a s o u e h = choose Q (all_unasked x.hints.probe) _ _ (λ v. rw e h) (λ v. clash u v)

      not_probing : (r : ℕ → Request) (i : ℕ) → is_probing (put r i idle i) ≡ false
      not_probing r i = grind arith

      true_test : (a : ℕ) (b : Bool) → b ≡ true → (eqb a a && b) ≡ true
      true_test a b e = grind arith

      wants_it : (p a : ℕ) (o : Bool) → t k ≡ ask p a o → (s : ℕ) × (c.lines.request j ≡ wants a o s probing)
      wants_it p a o e = probes_shape (c.lines.request j) a o (rw e at (live.asked k)).2

      going : c.hints.due k ≡ false → (p a : ℕ) (o : Bool) → t k ≡ ask p a o → Q (then (lets_go κ p a o) (requeue_lead κ) d)
      going n p a true e = choose U (all_unasked (put t k unasked) && c.on j) _ _
          (λ u. rw (wants_it p a true e).1 (choose U (eqb a a && free (put c.lines.entry p nobody) a 4) _ _
          (λ v. idle_now _ (not_probing c.lines.request j) (w.on_write n p a (wants_it p a true e).0 e (here n p a true e) (wants_it p a true e).1 (both u).0))
          (λ v. clash (true_test a _ (free_last c.lines.entry c.lines.request t j k p a live e (both u).0)) v)))
          (λ u. split (all_unasked (put t k unasked)) (c.on j) refl refl u)
        where
          split : (x y : Bool) → all_unasked (put t k unasked) ≡ x → c.on j ≡ y → (x && y) ≡ false → U (release κ p d)
          split true true f g u = clash refl u
          split true false f g u = queued_again _ a (wants_it p a true e).0 true f (wants_it p a true e).1 (w.off n p a (wants_it p a true e).0 e (here n p a true e) (wants_it p a true e).1 f g)
          split false y f g u = still_asked _ f (w.more n p a true empty e (here n p a true e) (λ i. refl) f)
      going n p a false e = choose U (all_unasked (put t k unasked)) _ _
          (λ u. rw (wants_it p a false e).1 (choose U (eqb a a && not false) _ _
          (λ v. idle_now _ (not_probing c.lines.request j) (w.on_read n p a (wants_it p a false e).0 e (here n p a false e) (wants_it p a false e).1 u))
          (λ v. clash (true_test a true refl) v)))
          (λ u. still_asked _ u (w.more n p a false (lowered (c.lines.slot p)) e (here n p a false e) (λ i. clash i refl) u))

      pub answer_cases : Q (answer_probe κ k c)
      answer_cases = choose Q (c.hints.due k) _ _ (λ u. w.none (λ n. clash u n)) (λ n. go n (t k) refl)
        where
          go : c.hints.due k ≡ false → (x : Probe) → t k ≡ x → Q (answer κ k x c)
          go n unasked e = w.none (λ m. rw e)
          go n (ask p a o) e = choose Q (has (c.lines.slot p) a) _ _ (λ u. going n p a o e) (λ u. clash (here n p a o e) u)

module _ (κ : Kind) where
  module _ (up : ℕ → Bool) (k : ℕ) (c : State κ) (P : State κ × Out → Type 0) where
    abbrev need : Lack
    need = lacked κ c k

    abbrev send : Bool
    send = may_send κ c k

    abbrev place : ℕ → ℕ
    place a = chosen (find c.lines.slot k a) k a (way_for κ c k a)

    -- why a core that is on does nothing
    abbrev pub Waits : Type 0
    Waits = (a : ℕ) × (o : Bool) × (need ≡ lacks a o) × ((send && (is_idle (c.lines.request k) && is_quiet (c.lines.coming k))) ≡ false)

    pub record Deeds : Type 0 where
      pub none : (k < c.count → c.on k ≡ true → Waits) → P (c, silent)
      pub interrupts : k < c.count → c.on k ≡ true → up k ≡ true → κ.isa.lets (c.cpu k) ≡ true → P (take_interrupt κ k c)
      pub does : c.on k ≡ true → need ≡ ready → P (execute κ k (κ.isa.one c.size (c.cpu k) (cached c.lines.slot k)) c)
      pub sends : (a : ℕ) (o : Bool) → c.on k ≡ true → need ≡ lacks a o → send ≡ true → is_idle (c.lines.request k) ≡ true → is_quiet (c.lines.coming k) ≡ true →
          P (send_request κ k a o (place a) c)
      pub sweeping : (q : ℕ) → q ≡ 64 * k + c.hints.sweep k % 64 → c.on k ≡ false → send ≡ true → q / 64 ≡ k → P (then (release κ q) (hint κ (λ d. with_sweep k ((d.hints.sweep k + 1) % 64) d.hints)) c)
      pub swept : is_empty (c.lines.slot (64 * k + c.hints.sweep k % 64)) ≡ true → c.on k ≡ false → send ≡ true → P (then (stay κ) (hint κ (λ d. with_sweep k ((d.hints.sweep k + 1) % 64) d.hints)) c)

    module _ (w : Deeds) where
      abbrev R : State κ × Out → Type 0
      R = P

      try_cases : (x : Lack) → need ≡ x → c.on k ≡ true → R (attempt κ k x c)
      try_cases ready e o = w.does o e
      try_cases (lacks a u) e o = choose R (send && (is_idle (c.lines.request k) && is_quiet (c.lines.coming k))) _ _
          (λ i. let z = three send (is_idle (c.lines.request k)) (is_quiet (c.lines.coming k)) i in w.sends a u o e z.0 z.1 z.2) (λ i. w.none (λ l o. (a, u, e, i)))

      sweep_place : (s : ℕ) → (64 * k + s % 64) / 64 ≡ k
      sweep_place s = omega arith

      pub act_cases : R (act κ up k c)
      act_cases = choose R (c.on k) _ _
          (λ o. choose R (ltb k c.count) _ _
          (λ l. choose R (up k && κ.isa.lets (c.cpu k)) _ _ (λ v. w.interrupts (less k c.count l) o (both v).0 (both v).1) (λ v. try_cases need refl o))
          (λ l. w.none (λ m. absurd (not_less k c.count l m))))
          (λ o. choose R send _ _
          (λ u. choose (λ (r : State κ × Out). P (then (λ d. r) (hint κ (λ d. with_sweep k ((d.hints.sweep k + 1) % 64) d.hints)) c)) (is_empty (c.lines.slot (64 * k + c.hints.sweep k % 64))) _ _
          (λ v. w.swept v o u) (λ v. w.sweeping (64 * k + c.hints.sweep k % 64) refl o u (sweep_place (c.hints.sweep k))))
          (λ u. w.none (λ l n. clash n o)))
        where
          not_less : (i j : ℕ) → ltb i j ≡ false → i < j → ⊥
          not_less i j e l = grind arith

  -- a request is started: of core k, whose request can be, from memory or from those who have the line; or that of the turn cannot be
  module _ (c : State κ) (P : State κ → List ℕ → Type 0) where
    abbrev can_at : ℕ → Bool
    can_at k = can_start κ c k

    pub record Starts : Type 0 where
      pub none : can_at c.hints.turn ≡ false → P c []
      pub fetch : (k a p : ℕ) (o : Bool) → c.lines.request k ≡ wants a o p queued → unhurried c.lines.request a 4 ≡ true → free c.lines.entry a 4 ≡ true →
          (can_at c.hints.turn ≡ true → k ≡ c.hints.turn) → P (with_lines_of κ (asks k (wants a o p fetching) c.lines) c) (a ∷ [])
      pub probe : (k a p : ℕ) (o : Bool) → c.lines.request k ≡ wants a o p queued → unhurried c.lines.request a 4 ≡ true → free c.lines.entry a 4 ≡ false →
          all_unasked c.hints.probe ≡ true → (eqb k c.hints.turn || not (keeps c.lines.entry a c.hints.turn)) ≡ true → (can_at c.hints.turn ≡ true → k ≡ c.hints.turn) →
          P (with_hints κ (with_lead (question c.lines.entry a o) k c.hints) (with_lines_of κ (asks k (wants a o p probing) c.lines) c)) []

    module _ (w : Starts) where
      abbrev S : State κ × Out → Type 0
      S r = P r.0 r.1.asks

      at_cases : (k : ℕ) → (can_at c.hints.turn ≡ true → k ≡ c.hints.turn) → (can_at k ≡ false → can_at c.hints.turn ≡ false) → S (start_at κ k c)
      at_cases k first other = choose S (can_at k) _ _ (λ u. go (c.lines.request k) refl u) (λ u. w.none (other u))
        where
          start_test : (o x y z : Bool) → (o && (x && (y || z))) ≡ true → (x ≡ true) × (y ≡ false → z ≡ true)
          start_test o x y z h = (grind arith, λ n. grind arith)

          go : (r : Request) → c.lines.request k ≡ r → startable κ c k r ≡ true → S (start_request κ k r c)
          go idle e u = clash u refl
          go (wants a o p probing) e u = clash u refl
          go (wants a o p fetching) e u = clash u refl
          go (wants a o p queued) e u =
              let z = start_test (c.on k) (unhurried c.lines.request a 4) (free c.lines.entry a 4) (all_unasked c.hints.probe && (eqb k c.hints.turn || not (keeps c.lines.entry a c.hints.turn))) u in
              choose S (free c.lines.entry a 4) _ _ (λ f. w.fetch k a p o e z.0 f first) (λ f. let y = z.1 f in w.probe k a p o e z.0 f (both y).0 (both y).1 first)

      pub start_cases : S (start_next κ c)
      start_cases = choose (λ k. S (start_at κ k c)) (can_at c.hints.turn) _ _ (λ u. at_cases c.hints.turn (λ v. refl) (λ v. v)) (λ n. at_cases _ (λ u. clash u n) (λ v. n))
