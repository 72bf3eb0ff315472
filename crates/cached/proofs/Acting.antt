-- What happens in the part of a cycle in which cores act.
use Rattle.std.proofs.Common.{◌≡◌, ℕ, zero, suc, ◌+◌, ◌/◌, ◌<◌, ◌≤◌, Bool, true, false, ◌&&◌, ◌||◌, eqb, ◌≢◌, ◌⊎◌, List, [], ◌∷◌, ◌++◌, sym, refl, ap, ◌∙◌, subst, inl, inr, arith}
use mathlib.Core.Bool.{false≢true}
use Rattle.rv32.specs.Did.{Did, goes, says, stops, stores}
use Rattle.cores.specs.Board.{Out}
use Rattle.cores.specs.Loop.{Step, each, joined}
use Rattle.cores.specs.Machines.{Event, interrupt, step}
use Rattle.cores.specs.Put.{put}
use Rattle.cores.proofs.Basics.{same, differ}
use Rattle.cached.specs.Soc.{State, act, way_for, may_send, lacked, stepped, with_lines_of}
use Rattle.cached.specs.Coherent.{view}
use Rattle.directory.specs.Directory.{Request, fetches, idle, is_idle, queued, wants}
use Rattle.cached.specs.Kind.{Kind, Laws, code}
use Rattle.cached.specs.Lines.{stored, Lines, asks, lines_after, releases}
use Rattle.link.specs.Messages.{Grant, Probe, is_quiet, is_unasked}
use Rattle.cached.specs.Rank.{further, requests_left}
use Rattle.cache.specs.Slots.{home, lacks, Found, cached, goes_first, chosen, empty, find, found, has, line_of, missing, ready}
use Rattle.cached.proofs.Base.{at_put, clash, both, put_here, or_right}
use Rattle.cached.proofs.Cases.{Deeds, act_cases}
use Rattle.cached.proofs.Distance.{Single, send_nearer, plain}
use Rattle.cached.proofs.Facts.{quiet_is, put_far}
use Rattle.cached.proofs.Phases.{Acting, Sound, acting_kept, finish_lines}
use Rattle.cached.proofs.Steps.{find_place, home_place, chosen_core}
use Rattle.cached.proofs.Views.{Same, further_same, needs_same, same_then, send_same}

module _ (κ : Kind) where
  -- a row of steps, with what they put out
  pub each_out : (f : ℕ → Step (State κ)) (B : State κ → Type 0) (P : ℕ → State κ × Out → Type 0) → ((k : ℕ) (c : State κ) → B c → B (f k c).0) →
      ((k : ℕ) (r : State κ × Out) → B r.0 → P k r → P (suc k) ((f k r.0).0, joined r.1 (f k r.0).1)) → (n : ℕ) (c : State κ) → B c → P 0 (each f 0 c) → B (each f n c).0 × P n (each f n c)
  unfolding each
  each_out f B P b p zero c x y = (x, y)
  each_out f B P b p (suc n) c x y = let z = each_out f B P b p n c x y in (b n _ z.0, p n (each f n c) z.0 z.1)

pub stepped_append : (k : ℕ) (xs ys : List Event) → stepped k (xs ++ ys) ≡ (stepped k xs || stepped k ys)
unfolding stepped
stepped_append k [] ys = refl
stepped_append k (step j ∷ xs) ys = ap (λ (z : Bool). eqb j k || z) (stepped_append k xs ys) ∙ or_assoc (eqb j k) (stepped k xs) (stepped k ys)
  where
    or_assoc : (x y z : Bool) → (x || (y || z)) ≡ ((x || y) || z)
    or_assoc x y z = grind arith
stepped_append k (interrupt j ∷ xs) ys = stepped_append k xs ys

stepped_one : (k : ℕ) → stepped k (step k ∷ []) ≡ true
unfolding stepped
stepped_one k = grind arith

pub put_other : {A : Type 0} (f : ℕ → A) (k : ℕ) (v : A) (i : ℕ) → i ≢ k → put f k v i ≡ f i
put_other f k v i n = at_put (λ z. z ≡ f i) f k v i (λ e. absurd (n e)) (λ e. refl)

module _ (κ : Kind) (laws : Laws κ) where
  abbrev Ac : State κ → Type 0
  Ac c = Acting κ laws c

  finish_slot : (k : ℕ) (d : Did κ.isa.Cpu) (l : Lines) (p : ℕ) → p / 64 ≢ k → (lines_after k d l).slot p ≡ l.slot p
  finish_slot k (goes x) l p n = refl
  finish_slot k (says v x) l p n = refl
  finish_slot k stops l p n = refl
  finish_slot k (stores y v x) l p n = go (find l.slot k (y / 8)) refl
    where
      go : (r : Found) → find l.slot k (y / 8) ≡ r → (stored r y v l).slot p ≡ l.slot p
      go missing e = refl
      go (found q) e = put_other l.slot q _ p (λ i. n (ap (λ (z : ℕ). z / 64) i ∙ (find_place l.slot k (y / 8) q e).0))

  -- what an act of core k leaves
  pub record Leaves (k : ℕ) (c d : State κ) : Type 0 where
    pub probe : d.hints.probe ≡ c.hints.probe
    pub due : d.hints.due ≡ c.hints.due
    pub turn : d.hints.turn ≡ c.hints.turn
    pub coming : d.lines.coming ≡ c.lines.coming
    pub size : d.size ≡ c.size
    pub count : d.count ≡ c.count
    pub fetch : (i a : ℕ) → fetches (d.lines.request i) a ≡ fetches (c.lines.request i) a
    pub request : (i : ℕ) → i ≢ k → d.lines.request i ≡ c.lines.request i
    pub cpu : (i : ℕ) → i ≢ k → d.cpu i ≡ c.cpu i
    pub on : (i : ℕ) → i ≢ k → d.on i ≡ c.on i
    pub slot : (p : ℕ) → p / 64 ≢ k → d.lines.slot p ≡ c.lines.slot p

  module _ (up : ℕ → Bool) (k : ℕ) (c : State κ) where
    idle_fetch : (q : Request) (a : ℕ) → is_idle q ≡ true → fetches q a ≡ false
    idle_fetch q a e = grind arith

    send_fetch : (x : Request) (i a : ℕ) → is_idle (c.lines.request k) ≡ true → fetches x a ≡ false → fetches (put c.lines.request k x i) a ≡ fetches (c.lines.request i) a
    send_fetch x i a e f = at_put (λ z. fetches z a ≡ fetches (c.lines.request i) a) c.lines.request k x i (λ w. rw w (f ∙ sym (idle_fetch (c.lines.request k) a e))) (λ w. refl)

    leave_deeds : Deeds κ up k c (λ r. Leaves k c r.0)
    leave_deeds = record {
      none = λ h. record { probe = refl; due = refl; turn = refl; coming = refl; size = refl; count = refl; fetch = λ i a. refl; request = λ i n. refl; cpu = λ i n. refl; on = λ i n. refl; slot = λ p n. refl };
      interrupts = λ l o w h. record { probe = refl; due = refl; turn = refl; coming = refl; size = refl; count = refl; fetch = λ i a. refl; request = λ i n. refl; cpu = λ i n. put_other c.cpu k _ i n; on = λ i n. put_other c.on k _ i n; slot = λ p n. refl };
      does = λ o h. let z = finish_lines κ laws k (κ.isa.one c.size (c.cpu k) (cached c.lines.slot k)) c.lines in record {
        probe = refl;
        due = refl;
        turn = refl;
        coming = z.2;
        size = refl;
        count = refl;
        fetch = λ i a. ap (λ (r : ℕ → Request). fetches (r i) a) z.1;
        request = λ i n. ap (λ (r : ℕ → Request). r i) z.1;
        cpu = λ i n. put_other c.cpu k _ i n;
        on = λ i n. put_other c.on k _ i n;
        slot = λ p n. finish_slot k (κ.isa.one c.size (c.cpu k) (cached c.lines.slot k)) c.lines p n;
      };
      sends = λ a o h n s i q. record {
        probe = refl;
        due = refl;
        turn = refl;
        coming = refl;
        size = refl;
        count = refl;
        fetch = λ j b. send_fetch _ j b i refl;
        request = λ i n. put_other c.lines.request k _ i n;
        cpu = λ i n. refl;
        on = λ i n. refl;
        slot = λ p m. put_far k c.lines.slot _ p empty (chosen_core c.lines.slot k a (way_for κ c k a)) m;
      };
      sweeping = λ q x o h e. record { probe = refl; due = refl; turn = refl; coming = refl; size = refl; count = refl; fetch = λ i a. refl; request = λ i n. refl; cpu = λ i n. refl; on = λ i n. refl; slot = λ p n. put_far k c.lines.slot q p empty e n };
      swept = λ x o h. record { probe = refl; due = refl; turn = refl; coming = refl; size = refl; count = refl; fetch = λ i a. refl; request = λ i n. refl; cpu = λ i n. refl; on = λ i n. refl; slot = λ p n. refl };
    }

    pub leaves : Leaves k c (act κ up k c).0
    leaves = act_cases κ up k c (λ r. Leaves k c r.0) leave_deeds

  leaves_same : (f k : ℕ) (c d : State κ) → f ≢ k → Leaves k c d → Same κ f c d
  leaves_same f k c d n l = record {
    request = l.request f n;
    coming = ap (λ (x : ℕ → Grant). x f) l.coming;
    cpu = l.cpu f n;
    on = l.on f n;
    slot = λ p e. l.slot p (λ i. n (sym e ∙ i));
    probe = ap (λ (x : ℕ → Probe). x f) l.probe;
    due = ap (λ (x : ℕ → Bool). x f) l.due;
    size = l.size;
    count = l.count;
  }

  -- core f acts
  abbrev fur : State κ → ℕ → ℕ
  fur c f = further κ c f

  -- four ends: an instruction is done; the core waits; it takes an interrupt; it sends a request, which brings it nearer
  pub record Waited (f : ℕ) (c d : State κ) : Type 0 where
    pub why : (may_send κ c f && (is_idle (c.lines.request f) && is_quiet (c.lines.coming f))) ≡ false
    pub line : ℕ
    pub writing : Bool
    pub lacking : lacked κ c f ≡ lacks line writing
    pub still : Same κ f c d

  pub record Broke (f : ℕ) (c d : State κ) : Type 0 where
    pub letting : κ.isa.lets (c.cpu f) ≡ true
    pub entered : d.cpu f ≡ κ.isa.enters (c.cpu f)
    pub on : d.on f ≡ true
    pub request : d.lines.request f ≡ c.lines.request f

  pub record AskedFor (f : ℕ) (c d : State κ) : Type 0 where
    pub send : may_send κ c f ≡ true
    pub was_idle : is_idle (c.lines.request f) ≡ true
    pub was_quiet : is_quiet (c.lines.coming f) ≡ true
    pub line : ℕ
    pub writing : Bool
    pub place : ℕ
    pub lacking : lacked κ c f ≡ lacks line writing
    pub asks_now : d.lines.request f ≡ wants line writing place queued
    pub cpu : d.cpu f ≡ c.cpu f
    pub nearer : fur d f + 1 ≤ fur c f

  abbrev pub Acted : ℕ → State κ → State κ × Out → Type 0
  Acted f c r = (stepped f r.1.did ≡ true) ⊎ (Waited f c r.0 ⊎ (Broke f c r.0 ⊎ AskedFor f c r.0))

  same_self : (f : ℕ) (c : State κ) → Same κ f c c
  same_self f c = record { request = refl; coming = refl; cpu = refl; on = refl; slot = λ p e. refl; probe = refl; due = refl; size = refl; count = refl }

  is_idle_says : (x : Request) → is_idle x ≡ true → x ≡ idle
  is_idle_says idle e = refl
  is_idle_says (wants a o p s) e = absurd (false≢true e)

  pub single : (f : ℕ) (c : State κ) → Sound κ laws c → is_quiet (c.lines.coming f) ≡ true → Single c.lines.slot f
  single f c s q a u v = absurd (apart (s.agrees.safe.coherent.once (home f a) (suc (home f a)) a ((home_place f a (home f a) (inl refl)).0 ∙ sym (home_place f a (suc (home f a)) (inr refl)).0)
      (seen (home f a) (home_place f a (home f a) (inl refl)).0 u) (seen (suc (home f a)) (home_place f a (suc (home f a)) (inr refl)).0 v)))
    where
      apart : home f a ≡ suc (home f a) → ⊥
      apart e = omega arith

      seen : (p : ℕ) → p / 64 ≡ f → has (c.lines.slot p) a ≡ true → has (view c.lines p) a ≡ true
      seen p e h = rw (e, quiet_is (c.lines.coming f) q) h

  module _ (up : ℕ → Bool) (f : ℕ) (c : State κ) (b : Ac c) (on : c.on f ≡ true) (small : f < c.count) where
    -- a request brings it nearer
    near : (a : ℕ) (o : Bool) → lacked κ c f ≡ lacks a o → may_send κ c f ≡ true → is_idle (c.lines.request f) ≡ true → is_quiet (c.lines.coming f) ≡ true →
        (p : ℕ) → p ≡ chosen (find c.lines.slot f a) f a (way_for κ c f a) →
        fur (with_lines_of κ (asks f (wants a o p queued) (releases p c.lines)) c) f + 1 ≤ fur c f
    near a o n s i q p e = rw ((both {x = c.hints.due f} {y = is_unasked (c.hints.probe f)} s).1, put_here c.lines.request f (wants a o p queued), is_idle_says (c.lines.request f) i, quiet_is (c.lines.coming f) q) main
      where
        spot : p ≡ chosen (find c.lines.slot f a) f a (goes_first (c.lines.slot (home f a)) (c.lines.slot (suc (home f a))) (line_of (code κ c.size (c.cpu f))) c.hints.way)
        spot = e

        main : requests_left κ c.size (c.cpu f) (put c.lines.slot p empty) f (lacks a o) + 1 ≤ requests_left κ c.size (c.cpu f) c.lines.slot f ready
        main = subst (λ (q : ℕ). requests_left κ c.size (c.cpu f) (put c.lines.slot q empty) f (lacks a o) + 1 ≤ requests_left κ c.size (c.cpu f) c.lines.slot f ready) (sym spot)
            (send_nearer f c.lines.slot (code κ c.size (c.cpu f)) (κ.touch c.size (c.cpu f)) (plain κ c.size (c.cpu f)) a o c.hints.way (single f c b.sound q) n)

    own_deeds : Deeds κ up f c (Acted f c)
    own_deeds = record {
      none = λ h. let z = h small on in inr (inl (record { why = z.3; line = z.0; writing = z.1; lacking = z.2; still = same_self f c }));
      interrupts = λ l o w h. inr (inr (inl (record { letting = h; entered = put_here c.cpu f _; on = put_here c.on f true; request = refl })));
      does = λ o h. inl (stepped_one f);
      sends = λ a o h n s i q. inr (inr (inr (record { send = s; was_idle = i; was_quiet = q; line = a; writing = o; place = _; lacking = n; asks_now = put_here c.lines.request f _; cpu = refl; nearer = near a o n s i q _ refl })));
      sweeping = λ q x o h e. clash on o;
      swept = λ x o h. clash on o;
    }

    pub acted : Acted f c (act κ up f c)
    acted = act_cases κ up f c (Acted f c) own_deeds

  -- what holds while cores act, of the chip c before: the others leave core f alone, and it acts once
  pub record Going (f : ℕ) (c : State κ) (n : ℕ) (r : State κ × Out) : Type 0 where
    pub probe : r.0.hints.probe ≡ c.hints.probe
    pub due : r.0.hints.due ≡ c.hints.due
    pub turn : r.0.hints.turn ≡ c.hints.turn
    pub coming : r.0.lines.coming ≡ c.lines.coming
    pub size : r.0.size ≡ c.size
    pub count : r.0.count ≡ c.count
    pub fetch : (i a : ℕ) → fetches (r.0.lines.request i) a ≡ fetches (c.lines.request i) a
    pub before : n ≤ f → Same κ f c r.0
    pub after : c.on f ≡ true → f < c.count → f < n → Acted f c r

  -- another core acts
  acted_more : (f : ℕ) (c : State κ) (r : State κ × Out) (d : State κ) (o : Out) → Same κ f r.0 d → Acted f c r → Acted f c (d, joined r.1 o)
  acted_more f c r d o s (inl x) = inl (stepped_append f r.1.did o.did ∙ rw x)
  acted_more f c r d o s (inr (inl x)) = inr (inl (record { why = x.why; line = x.line; writing = x.writing; lacking = x.lacking; still = same_then κ f c r.0 d x.still s }))
  acted_more f c r d o s (inr (inr (inl x))) = inr (inr (inl (record { letting = x.letting; entered = s.cpu ∙ x.entered; on = s.on ∙ x.on; request = s.request ∙ x.request })))
  acted_more f c r d o s (inr (inr (inr x))) = inr (inr (inr (record {
    send = x.send;
    was_idle = x.was_idle;
    was_quiet = x.was_quiet;
    line = x.line;
    writing = x.writing;
    place = x.place;
    lacking = x.lacking;
    asks_now = s.request ∙ x.asks_now;
    cpu = s.cpu ∙ x.cpu;
    nearer = subst (λ (n : ℕ). n + 1 ≤ fur c f) (sym (further_same κ f r.0 d s)) x.nearer;
  })))

  -- core f acts on a chip that is the same to it
  acted_here : (f : ℕ) (c d : State κ) (u o : Out) (e : State κ) → Same κ f c d → Acted f d (e, o) → Acted f c (e, joined u o)
  acted_here f c d u o e s (inl x) = inl (stepped_append f u.did o.did ∙ or_right (stepped f u.did) (stepped f o.did) x)
  acted_here f c d u o e s (inr (inl x)) = inr (inl (record {
    why = sym (rw (send_same κ f c d s, s.request, s.coming)) ∙ x.why;
    line = x.line;
    writing = x.writing;
    lacking = sym (needs_same κ f c d s) ∙ x.lacking;
    still = same_then κ f c d e s x.still;
  }))
  acted_here f c d u o e s (inr (inr (inl x))) = inr (inr (inl (record { letting = ap κ.isa.lets (sym s.cpu) ∙ x.letting; entered = x.entered ∙ ap κ.isa.enters s.cpu; on = x.on; request = x.request ∙ s.request })))
  acted_here f c d u o e s (inr (inr (inr x))) = inr (inr (inr (record {
    send = sym (send_same κ f c d s) ∙ x.send;
    was_idle = ap is_idle (sym s.request) ∙ x.was_idle;
    was_quiet = ap is_quiet (sym s.coming) ∙ x.was_quiet;
    line = x.line;
    writing = x.writing;
    place = x.place;
    lacking = sym (needs_same κ f c d s) ∙ x.lacking;
    asks_now = x.asks_now;
    cpu = x.cpu ∙ s.cpu;
    nearer = subst (λ (n : ℕ). fur e f + 1 ≤ n) (further_same κ f c d s) x.nearer;
  })))

  module _ (up : ℕ → Bool) (f : ℕ) (c : State κ) where
    going_step : (k : ℕ) (r : State κ × Out) → Ac r.0 → Going f c k r → Going f c (suc k) ((act κ up k r.0).0, joined r.1 (act κ up k r.0).1)
    going_step k r b g = let l = leaves up k r.0 in record {
      probe = l.probe ∙ g.probe;
      due = l.due ∙ g.due;
      turn = l.turn ∙ g.turn;
      coming = l.coming ∙ g.coming;
      size = l.size ∙ g.size;
      count = l.count ∙ g.count;
      fetch = λ i a. l.fetch i a ∙ g.fetch i a;
      before = λ h. same_then κ f c r.0 _ (g.before (omega arith)) (leaves_same f k r.0 _ (λ i. omega arith) l);
      after = λ on small h. split on small l h (eqb f k) refl;
    }
      where
        at_own : c.on f ≡ true → f < c.count → f ≡ k → Acted f c ((act κ up k r.0).0, joined r.1 (act κ up k r.0).1)
        at_own on small i = let s = g.before (omega arith) in
            acted_here f c r.0 r.1 (act κ up k r.0).1 (act κ up k r.0).0 s
            (subst (λ (x : ℕ). Acted f r.0 (act κ up x r.0)) i (acted up f r.0 b (s.on ∙ on) (subst (λ (x : ℕ). f < x) (sym s.count) small)))

        split : c.on f ≡ true → f < c.count → Leaves k r.0 (act κ up k r.0).0 → f < suc k → (z : Bool) → eqb f k ≡ z →
            Acted f c ((act κ up k r.0).0, joined r.1 (act κ up k r.0).1)
        split on small l h true e = at_own on small (same f k e)
        split on small l h false e = acted_more f c r (act κ up k r.0).0 (act κ up k r.0).1 (leaves_same f k r.0 (act κ up k r.0).0 (differ f k e) l) (g.after on small (below (differ f k e) h))
          where
            below : f ≢ k → f < suc k → f < k
            below n h = omega arith

    pub actings_done : Ac c → Ac (each (act κ up) 4 c).0 × Going f c 4 (each (act κ up) 4 c)
    unfolding each
    actings_done b = each_out κ (act κ up) Ac (Going f c) (λ k d x. acting_kept κ laws up k d x) going_step 4 c b
        (record { probe = refl; due = refl; turn = refl; coming = refl; size = refl; count = refl; fetch = λ i a. refl; before = λ h. same_self f c; after = λ on small h. absurd (omega arith) })
