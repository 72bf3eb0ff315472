-- What happens in the parts of a cycle before cores act: lines come and are taken, probes are answered.
use Rattle.std.proofs.Common.{◌≡◌, ℕ, suc, ◌/◌, ◌<◌, Bool, true, false, not, ◌&&◌, ◌||◌, eqb, ltb, ◌≢◌, ◌⊎◌, List, sym, refl, ap, ◌∙◌, subst, inl, inr, arith}
use Rattle.cores.specs.Board.{Out}
use Rattle.cores.specs.Loop.{each}
use Rattle.cores.specs.Machines.{Manual, pick}
use Rattle.cores.specs.Put.{put}
use Rattle.cores.proofs.Basics.{choose, same, differ}
use Rattle.cached.specs.Soc.{Hints, State, answer_probe, deliver, take_due}
use Rattle.cached.specs.Coherent.{Bound}
use Rattle.directory.specs.Directory.{Request, fetches, held, idle, probing, queued, tag, wants}
use Rattle.cached.specs.Kind.{Kind, Laws}
use Rattle.cached.specs.Lines.{Lines, asks, grants, lowers, releases, sets}
use Rattle.link.specs.Messages.{Grant, all_unasked, ask, filled, grant, is_quiet, is_unasked, over, quiet, unasked}
use Rattle.cached.specs.Rank.{Asked, probes, sent}
use Rattle.cache.specs.Slots.{lacks, Slot, empty, has, holds, lowered, raised, words}
use Rattle.cached.proofs.Steps.{True}
use Rattle.cached.proofs.CycleAgrees.{open_keeps, take_one_keeps}
use Rattle.cached.proofs.Base.{at_put, clash, ltb_self, ltb_next}
use Rattle.cached.proofs.Cases.{Ways, answer_cases, heard}
use Rattle.cached.proofs.Delivery.{filled_other, all_slot}
use Rattle.cached.proofs.Facts.{not_wants, quiet_is, tag_held, put_far}
use Rattle.cached.proofs.Agrees.{Agrees}
use Rattle.cached.proofs.Lists.{at_line}
use Rattle.cached.proofs.Phases.{Answering, Lively, Ready, Sound, answering_kept, deliver_live, each_with, every_unasked, sound_step}

no_or : (x y : Bool) → (x || not y) ≡ false → y ≡ true
no_or x y e = grind arith

filled_same : (x : Grant) (f g : ℕ → Slot) (p : ℕ) → f p ≡ g p → filled x f p ≡ filled x g p
filled_same quiet f g p e = e
filled_same (grant q y) f g p e = ap (λ (z : Slot). pick (eqb p q) y z) e

module _ (κ : Kind) (laws : Laws κ) where
  abbrev So : State κ → Type 0
  So c = Sound κ laws c

  abbrev Li : State κ → Type 0
  Li c = Lively κ laws c

  abbrev An : State κ → Type 0
  An c = Answering κ laws c

  -- who is to answer has the line in its cache
  ready_first : (c : State κ) → So c → Li c → Ready (λ k. is_unasked (c.hints.probe k) || not (is_quiet (c.lines.coming k))) c.lines.slot c.hints.probe
  ready_first c s v k p a o n e =
      let z : (p / 64 ≡ k) × (held (c.lines.entry p) a ≡ true) × (probes (c.lines.request c.hints.lead) a o ≡ true) = subst (Asked c.lines.entry (c.lines.request c.hints.lead) k) e (v.asked k) in
      let q : c.lines.coming (p / 64) ≡ quiet = ap c.lines.coming z.0 ∙ quiet_is (c.lines.coming k) (no_or (is_unasked (c.hints.probe k)) (is_quiet (c.lines.coming k)) n) in
      (tag_held (c.lines.slot p) (c.lines.entry p) a (s.agrees.safe.tidy.mirror p ∙ ap (λ (g : Grant). tag (over g p (c.lines.slot p))) q) z.1, z.0)

  pub opened : (c : State κ) (m : List (List ℕ)) (s : List (ℕ × ℕ)) (μ : Manual κ.isa) (xs : List (ℕ × List ℕ)) → True (at_line m) xs → Agrees κ laws c m s μ → Li c → An (deliver κ xs c).0
  opened c m s μ xs t g v = record {
    sound = record { outside = _; spoken = _; manual = _; agrees = open_keeps κ laws c m s μ xs t g };
    live = deliver_live κ laws c.size 4 xs c.lines (at_line m) (at_line μ.memory) c.hints.probe c.hints.lead t g.safe v;
    ready = rw (all_slot 4 xs c.lines) (ready_first c (record { outside = m; spoken = s; manual = μ; agrees = g }) v);
  }

  -- lines are taken
  module _ (k : ℕ) (c : State κ) (b : An c) where
    bound : Bound c.lines.slot k (c.lines.coming k)
    bound = b.sound.agrees.safe.tidy.bound k

    take_ready : c.hints.due k ≡ true → Ready c.hints.due (filled (c.lines.coming k) c.lines.slot) c.hints.probe
    take_ready u i p a o n e = let z = b.ready i p a o n e in
        (ap (λ (s : Slot). has s a) (filled_other (c.lines.coming k) c.lines.slot k p bound (λ j. clash u (subst (λ (y : ℕ). c.hints.due y ≡ false) (sym z.1 ∙ j) n))) ∙ z.0, z.1)

    pub taking_kept : An (take_due κ k c).0
    taking_kept = record {
      sound = sound_step κ laws (take_due κ k) c (λ m s μ g. take_one_keeps κ laws c m s μ g k) b.sound;
      live = choose (λ (r : State κ × Out). Li r.0) (c.hints.due k) _ _ (λ u. b.live) (λ u. b.live);
      ready = choose (λ (r : State κ × Out). Ready r.0.hints.due r.0.lines.slot r.0.hints.probe) (c.hints.due k) _ _ take_ready (λ u. b.ready);
    }

  -- the first n cores have taken what has come to them, in the chip d
  pub record Taken (d : State κ) (n : ℕ) (c : State κ) : Type 0 where
    pub request : c.lines.request ≡ d.lines.request
    pub hints : c.hints ≡ d.hints
    pub cpu : c.cpu ≡ d.cpu
    pub on : c.on ≡ d.on
    pub size : c.size ≡ d.size
    pub count : c.count ≡ d.count
    pub coming : (i : ℕ) → c.lines.coming i ≡ pick (ltb i n && d.hints.due i) quiet (d.lines.coming i)
    pub slot : (p : ℕ) → c.lines.slot p ≡ pick (ltb (p / 64) n && d.hints.due (p / 64)) (filled (d.lines.coming (p / 64)) d.lines.slot p) (d.lines.slot p)

  module _ (d : State κ) (n : ℕ) (c : State κ) (b : An c) (h : Taken d n c) where
    same_due : (i : ℕ) → c.hints.due i ≡ d.hints.due i
    same_due i = ap (λ (x : Hints). x.due i) h.hints

    -- core n takes
    coming_taken : c.hints.due n ≡ true → (i : ℕ) → put c.lines.coming n quiet i ≡ pick (ltb i (suc n) && d.hints.due i) quiet (d.lines.coming i)
    coming_taken u i = at_put (λ z. z ≡ pick (ltb i (suc n) && d.hints.due i) quiet (d.lines.coming i)) c.lines.coming n quiet i
        (λ e. rw (e, (ltb_self n).1, ← (same_due n), u)) (λ e. rw (ltb_next i n e) (h.coming i))

    coming_left : c.hints.due n ≡ false → (i : ℕ) → c.lines.coming i ≡ pick (ltb i (suc n) && d.hints.due i) quiet (d.lines.coming i)
    coming_left u i = split (eqb i n) refl
      where
        first_way : d.hints.due n ≡ false → c.lines.coming n ≡ pick (ltb n n && d.hints.due n) quiet (d.lines.coming n) → c.lines.coming n ≡ pick (ltb n (suc n) && d.hints.due n) quiet (d.lines.coming n)
        first_way v e = e ∙ rw (v, (ltb_self n).0, (ltb_self n).1)

        split : (z : Bool) → eqb i n ≡ z → c.lines.coming i ≡ pick (ltb i (suc n) && d.hints.due i) quiet (d.lines.coming i)
        split true j = rw (same i n j) (first_way (sym (same_due n) ∙ u) (h.coming n))
        split false j = rw (ltb_next i n (differ i n j)) (h.coming i)

    coming_here : c.lines.coming n ≡ d.lines.coming n
    coming_here = h.coming n ∙ rw (ltb_self n).0

    slot_here : (p : ℕ) → p / 64 ≡ n → c.lines.slot p ≡ d.lines.slot p
    slot_here p e = h.slot p ∙ rw (e, (ltb_self n).0)

    slot_taken : c.hints.due n ≡ true → (p : ℕ) → filled (c.lines.coming n) c.lines.slot p ≡ pick (ltb (p / 64) (suc n) && d.hints.due (p / 64)) (filled (d.lines.coming (p / 64)) d.lines.slot p) (d.lines.slot p)
    slot_taken u p = split (eqb (p / 64) n) refl
      where
        own : p / 64 ≡ n → filled (c.lines.coming n) c.lines.slot p ≡ filled (d.lines.coming n) d.lines.slot p
        own e = filled_same (c.lines.coming n) c.lines.slot d.lines.slot p (slot_here p e) ∙ ap (λ (x : Grant). filled x d.lines.slot p) coming_here

        split : (z : Bool) → eqb (p / 64) n ≡ z → filled (c.lines.coming n) c.lines.slot p ≡ pick (ltb (p / 64) (suc n) && d.hints.due (p / 64)) (filled (d.lines.coming (p / 64)) d.lines.slot p) (d.lines.slot p)
        split true j = let e = same (p / 64) n j in own e ∙ rw (e, (ltb_self n).1, ← (same_due n), u)
        split false j = filled_other (c.lines.coming n) c.lines.slot n p (bound n c b) (differ (p / 64) n j) ∙ h.slot p ∙ rw (ltb_next (p / 64) n (differ (p / 64) n j))

    slot_left : c.hints.due n ≡ false → (p : ℕ) → c.lines.slot p ≡ pick (ltb (p / 64) (suc n) && d.hints.due (p / 64)) (filled (d.lines.coming (p / 64)) d.lines.slot p) (d.lines.slot p)
    slot_left u p = split (eqb (p / 64) n) refl
      where
        split : (z : Bool) → eqb (p / 64) n ≡ z → c.lines.slot p ≡ pick (ltb (p / 64) (suc n) && d.hints.due (p / 64)) (filled (d.lines.coming (p / 64)) d.lines.slot p) (d.lines.slot p)
        split true j = let e = same (p / 64) n j in slot_here p e ∙ rw (e, (ltb_self n).1, ← (same_due n), u)
        split false j = h.slot p ∙ rw (ltb_next (p / 64) n (differ (p / 64) n j))

    taken_step : Taken d (suc n) (take_due κ n c).0
    taken_step = choose (λ (r : State κ × Out). Taken d (suc n) r.0) (c.hints.due n) _ _
        (λ u. record { request = h.request; hints = h.hints; cpu = h.cpu; on = h.on; size = h.size; count = h.count; coming = coming_taken u; slot = slot_taken u })
        (λ u. record { request = h.request; hints = h.hints; cpu = h.cpu; on = h.on; size = h.size; count = h.count; coming = coming_left u; slot = slot_left u })

  pub takings_done : (d : State κ) → An d → An (each (take_due κ) 4 d).0 × Taken d 4 (each (take_due κ) 4 d).0
  takings_done d b = each_with κ (take_due κ) An (Taken d) taking_kept (λ k c x y. taken_step d k c x y) 4 d b
      (record { request = refl; hints = refl; cpu = refl; on = refl; size = refl; count = refl; coming = λ i. first_of i; slot = λ p. first_slot p })
    where
      zero_not : (i : ℕ) → ltb i 0 ≡ false
      zero_not i = grind arith

      first_of : (i : ℕ) → d.lines.coming i ≡ pick (ltb i 0 && d.hints.due i) quiet (d.lines.coming i)
      first_of i = rw (zero_not i)

      first_slot : (p : ℕ) → d.lines.slot p ≡ pick (ltb (p / 64) 0 && d.hints.due (p / 64)) (filled (d.lines.coming (p / 64)) d.lines.slot p) (d.lines.slot p)
      first_slot p = rw (zero_not (p / 64))

  -- a request that asked was served
  abbrev pub Served : Request → Grant → Request → Grant → Type 0
  Served q g r h = ((r ≡ q) × (h ≡ g)) ⊎ ((a s : ℕ) × (o : Bool) × (y : Slot) × (q ≡ wants a o s probing) × (r ≡ idle) × (h ≡ grant s y) × (sent (grant s y) ≡ lacks a o))

  -- what an answer of core k does to the lines
  pub record Effect (k : ℕ) (c : State κ) (l : Lines) : Type 0 where
    pub slot : (p : ℕ) → p / 64 ≢ k → l.slot p ≡ c.lines.slot p
    pub fetch : (i a : ℕ) → fetches (l.request i) a ≡ fetches (c.lines.request i) a
    pub coming : (all_unasked (put c.hints.probe k unasked) ≡ true) ⊎ (l.coming ≡ c.lines.coming)
    pub serve : (i : ℕ) → c.on i ≡ true → Served (c.lines.request i) (c.lines.coming i) (l.request i) (l.coming i)

  module _ (k : ℕ) (c : State κ) (b : An c) (P : State κ → Type 0) where
    abbrev j : ℕ
    j = c.hints.lead

    put_fetch : (r : ℕ → Request) (k : ℕ) (x : Request) (i a : ℕ) → fetches x a ≡ false → fetches (r k) a ≡ false → fetches (put r k x i) a ≡ fetches (r i) a
    put_fetch r k x i a e f = at_put (λ z. fetches z a ≡ fetches (r i) a) r k x i (λ w. rw w (e ∙ sym f)) (λ w. refl)

    probing_fetch : (q : Request) (a b s : ℕ) (o : Bool) → q ≡ wants a o s probing → fetches q b ≡ false
    probing_fetch q a b s o e = rw e

    serving : (r : ℕ → Request) (g : ℕ → Grant) (a s : ℕ) (o : Bool) (y : Slot) → r j ≡ wants a o s probing → sent (grant s y) ≡ lacks a o → (i : ℕ) → Served (r i) (g i) (put r j idle i) (put g j (grant s y) i)
    serving r g a s o y e f i = split (eqb i j) refl
      where
        split : (z : Bool) → eqb i j ≡ z → Served (r i) (g i) (pick z idle (r i)) (pick z (grant s y) (g i))
        split true w = inr (a, s, o, y, rw (same i j w) e, refl, refl, f)
        split false w = inl (refl, refl)

    raised_sent : (x : Slot) (a s : ℕ) → has x a ≡ true → sent (grant s (raised x)) ≡ lacks a true
    raised_sent x a s h = grind arith

    here : c.hints.due k ≡ false → (p a : ℕ) (o : Bool) → c.hints.probe k ≡ ask p a o → has (c.lines.slot p) a ≡ true
    here n p a o e = (b.ready k p a o n e).0

    home_at : c.hints.due k ≡ false → (p a : ℕ) (o : Bool) → c.hints.probe k ≡ ask p a o → p / 64 ≡ k
    home_at n p a o e = (b.ready k p a o n e).1

    off_serve : (a s : ℕ) → c.on j ≡ false → (i : ℕ) → c.on i ≡ true → Served (c.lines.request i) (c.lines.coming i) (put c.lines.request j (wants a true s queued) i) (c.lines.coming i)
    off_serve a s o i e = inl (at_put (λ z. z ≡ c.lines.request i) c.lines.request j (wants a true s queued) i (λ w. clash e (rw w o)) (λ w. refl), refl)

    effects : ((c.hints.due k ≡ false → is_unasked (c.hints.probe k) ≡ true) → P c) → ((l : Lines) → c.hints.due k ≡ false → Effect k c l → P (heard κ k l c)) → Ways κ c P b.live k
    effects none some = record {
      none = none;
      more = λ n p a o x e h i u. some (sets p x c.lines) n (record { slot = λ q m. put_far k c.lines.slot p q x (home_at n p a o e) m; fetch = λ i a. refl; coming = inr refl; serve = λ i w. inl (refl, refl) });
      on_write = λ n p a s e h r u. some (grants j s (raised (c.lines.slot p)) (releases p c.lines)) n (record {
        slot = λ q m. put_far k c.lines.slot p q empty (home_at n p a true e) m;
        fetch = λ i a. put_fetch c.lines.request j idle i a refl (probing_fetch (c.lines.request j) _ a s true r);
        coming = inl u;
        serve = λ i w. serving c.lines.request c.lines.coming a s true (raised (c.lines.slot p)) r (raised_sent (c.lines.slot p) a s h) i;
      });
      on_read = λ n p a s e h r u. some (grants j s (holds a false false (words (c.lines.slot p))) (lowers p c.lines)) n (record {
        slot = λ q m. put_far k c.lines.slot p q (lowered (c.lines.slot p)) (home_at n p a false e) m;
        fetch = λ i a. put_fetch c.lines.request j idle i a refl (probing_fetch (c.lines.request j) _ a s false r);
        coming = inl u;
        serve = λ i w. serving c.lines.request c.lines.coming a s false (holds a false false (words (c.lines.slot p))) r refl i;
      });
      off = λ n p a s e h r u o. some (asks j (wants a true s queued) (releases p c.lines)) n (record {
        slot = λ q m. put_far k c.lines.slot p q empty (home_at n p a true e) m;
        fetch = λ i b. put_fetch c.lines.request j (wants a true s queued) i b refl (probing_fetch (c.lines.request j) _ b s true r);
        coming = inr refl;
        serve = λ i w. off_serve a s o i w;
      });
    }

    pub effect_cases : ((c.hints.due k ≡ false → is_unasked (c.hints.probe k) ≡ true) → P c) → ((l : Lines) → c.hints.due k ≡ false → Effect k c l → P (heard κ k l c)) → P (answer_probe κ k c).0
    effect_cases none some = answer_cases κ c P b.live k (effects none some) here

  served_then : (q r s : Request) (g h i : Grant) → Served q g r h → Served r h s i → Served q g s i
  served_then q r s g h i (inl x) (inl y) = inl (y.0 ∙ x.0, y.1 ∙ x.1)
  served_then q r s g h i (inl x) (inr y) = inr (y.0, y.1, y.2, y.3, sym x.0 ∙ y.4, y.5, y.6, y.7)
  served_then q r s g h i (inr x) (inl y) = inr (x.0, x.1, x.2, x.3, x.4, y.0 ∙ x.5, y.1 ∙ x.6, x.7)
  served_then q r s g h i (inr x) (inr y) = not_wants y.0 y.1 y.2 probing (sym x.5 ∙ y.4)

  -- the first n cores have answered, in the chip d, as far as they are to
  pub record Answered (f : ℕ) (d : State κ) (n : ℕ) (c : State κ) : Type 0 where
    pub due : c.hints.due ≡ d.hints.due
    pub turn : c.hints.turn ≡ d.hints.turn
    pub cpu : c.cpu ≡ d.cpu
    pub on : c.on ≡ d.on
    pub size : c.size ≡ d.size
    pub count : c.count ≡ d.count
    pub fewer : (k : ℕ) → is_unasked (d.hints.probe k) ≡ true → is_unasked (c.hints.probe k) ≡ true
    pub done : (k : ℕ) → k < n → d.hints.due k ≡ false → is_unasked (c.hints.probe k) ≡ true
    pub clear : (k : ℕ) → is_unasked (c.hints.probe k) ≡ false → d.hints.due k ≡ true → is_quiet (c.lines.coming k) ≡ true
    pub fetch : (i a : ℕ) → fetches (c.lines.request i) a ≡ fetches (d.lines.request i) a
    pub slot : (p : ℕ) → d.hints.due (p / 64) ≡ true → c.lines.slot p ≡ d.lines.slot p
    pub serve : d.on f ≡ true → Served (d.lines.request f) (d.lines.coming f) (c.lines.request f) (c.lines.coming f)

  module _ (f : ℕ) (d : State κ) (n : ℕ) (c : State κ) (b : An c) (h : Answered f d n c) where
    below : (k : ℕ) → k < suc n → k ≢ n → k < n
    below k l e = omega arith

    told_at : (k : ℕ) → is_unasked (put c.hints.probe n unasked k) ≡ false → (k ≢ n) × (is_unasked (c.hints.probe k) ≡ false)
    told_at k e = at_put (λ z. is_unasked z ≡ false → (k ≢ n) × (is_unasked (c.hints.probe k) ≡ false)) c.hints.probe n unasked k (λ i v. clash refl v) (λ i v. (i, v)) e

    none_left : (c.hints.due n ≡ false → is_unasked (c.hints.probe n) ≡ true) → Answered f d (suc n) c
    none_left r = record {
      due = h.due;
      turn = h.turn;
      cpu = h.cpu;
      on = h.on;
      size = h.size;
      count = h.count;
      fewer = h.fewer;
      done = λ k l e. split k l e (eqb k n) refl;
      clear = h.clear;
      fetch = h.fetch;
      slot = h.slot;
      serve = h.serve;
    }
      where
        split : (k : ℕ) → k < suc n → d.hints.due k ≡ false → (z : Bool) → eqb k n ≡ z → is_unasked (c.hints.probe k) ≡ true
        split k l e true w = subst (λ (x : ℕ). is_unasked (c.hints.probe x) ≡ true) (sym (same k n w)) (r (ap (λ (x : ℕ → Bool). x n) h.due ∙ subst (λ (x : ℕ). d.hints.due x ≡ false) (same k n w) e))
        split k l e false w = h.done k (below k l (differ k n w)) e

    heard_more : (l : Lines) → c.hints.due n ≡ false → Effect n c l → Answered f d (suc n) (heard κ n l c)
    heard_more l u e = record {
      due = h.due;
      turn = h.turn;
      cpu = h.cpu;
      on = h.on;
      size = h.size;
      count = h.count;
      fewer = λ k v. at_put (λ z. is_unasked z ≡ true) c.hints.probe n unasked k (λ i. refl) (λ i. h.fewer k v);
      done = λ k w v. at_put (λ z. is_unasked z ≡ true) c.hints.probe n unasked k (λ i. refl) (λ i. h.done k (below k w i) v);
      clear = λ k v w. elim e.coming [
        | inl a ↦ clash (every_unasked κ laws c b.sound b.live n a k) v
        | inr a ↦ ap (λ (x : ℕ → Grant). is_quiet (x k)) a ∙ h.clear k (told_at k v).1 w
      ];
      fetch = λ i a. e.fetch i a ∙ h.fetch i a;
      slot = λ p w. e.slot p (λ i. clash (subst (λ (x : ℕ). d.hints.due x ≡ true) i w) (ap (λ (x : ℕ → Bool). x n) (sym h.due) ∙ u)) ∙ h.slot p w;
      serve = λ o. served_then _ _ _ _ _ _ (h.serve o) (e.serve f (ap (λ (x : ℕ → Bool). x f) h.on ∙ o));
    }

    answered_step : Answered f d (suc n) (answer_probe κ n c).0
    answered_step = effect_cases n c b (Answered f d (suc n)) none_left heard_more

  pub answerings_done : (f : ℕ) (d : State κ) → An d → ((k : ℕ) → is_unasked (d.hints.probe k) ≡ false → d.hints.due k ≡ true → is_quiet (d.lines.coming k) ≡ true) →
      An (each (answer_probe κ) 4 d).0 × Answered f d 4 (each (answer_probe κ) 4 d).0
  answerings_done f d b q = each_with κ (answer_probe κ) An (Answered f d) (λ k c x. answering_kept κ laws k c x) (λ k c x y. answered_step f d k c x y) 4 d b (record {
    due = refl;
    turn = refl;
    cpu = refl;
    on = refl;
    size = refl;
    count = refl;
    fewer = λ k v. v;
    done = λ k l v. absurd (omega arith);
    clear = q;
    fetch = λ i a. refl;
    slot = λ p w. refl;
    serve = λ o. inl (refl, refl);
  })
