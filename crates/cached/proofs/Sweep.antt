-- Once all cores have stopped nothing is answered or started for long, and each core hands back its slots one after another.
use Rattle.std.proofs.Common.{◌≡◌, ℕ, zero, suc, ◌+◌, ◌*◌, ◌/◌, ◌%◌, ◌<◌, Bool, true, false, ◌&&◌, eqb, ltb, ◌≢◌, ◌⊎◌, List, [], sym, refl, ap, ◌∙◌, subst, inl, inr, arith}
use Rattle.cores.specs.Board.{Out}
use Rattle.cores.specs.Loop.{each, joined, then}
use Rattle.cores.specs.Machines.{Manual, pick}
use Rattle.cores.specs.Put.{put}
use Rattle.cores.proofs.Basics.{choose, same, differ, less}
use Rattle.cached.specs.Soc.{Hints, State, act_all, act, answer, answer_all, answer_probe, can_start, may_send, next_start, deliver, startable, start_at, start_next, take_all, hint, with_sweep}
use Rattle.directory.specs.Directory.{Request, fetching, idle, probing, queued, wants}
use Rattle.cached.specs.Kind.{Kind, Laws}
use Rattle.link.specs.Messages.{Grant, Probe, ask, filled, grant, is_quiet, is_unasked, quiet, unasked}
use Rattle.cache.specs.Slots.{Slot, dirties, empty, holds, is_empty}
use Rattle.cached.proofs.Steps.{True}
use Rattle.cached.proofs.Acting.{each_out}
use Rattle.cached.proofs.Base.{at_put, clash, not_false, less_four, ltb_self, ltb_next}
use Rattle.cached.proofs.Delivery.{all_came, all_slot}
use Rattle.cached.proofs.Falls.{answered, asked_yet, taken}
use Rattle.cached.proofs.Agrees.{Agrees}
use Rattle.cached.proofs.Lists.{at_line}
use Rattle.cached.proofs.Phases.{Lively}
use Rattle.cached.proofs.TakeAnswer.{Taken}

abbrev pub Clean : Slot → Type 0
Clean x = (a : ℕ) → dirties x a ≡ false

module _ (κ : Kind) where
  abbrev pub Unasked : State κ → Type 0
  Unasked c = (k : ℕ) → is_unasked (c.hints.probe k) ≡ true

  -- where nothing is asked nothing is answered
  answer_still : (k : ℕ) (c : State κ) → Unasked c → (answer_probe κ k c).0 ≡ c
  answer_still k c u = choose (λ (r : State κ × Out). r.0 ≡ c) (c.hints.due k) _ _ (λ e. refl) (λ e. go (c.hints.probe k) (u k))
    where
      go : (t : Probe) → is_unasked t ≡ true → (answer κ k t c).0 ≡ c
      go unasked h = refl
      go (ask p a o) h = clash h refl

  pub answers_still : (n : ℕ) (c : State κ) → Unasked c → (each (answer_probe κ) n c).0 ≡ c
  unfolding each
  answers_still zero c u = refl
  answers_still (suc n) c u = ap (λ (d : State κ). (answer_probe κ n d).0) (answers_still n c u) ∙ answer_still n c u

  abbrev pub Off : State κ → Type 0
  Off c = (k : ℕ) → c.on k ≡ false

  -- no request of a stopped core is started
  start_still : (c : State κ) → Off c → (start_next κ c).0 ≡ c
  start_still c off = go (next_start κ c)
    where
      on_first : (x y : Bool) → (x && y) ≡ true → x ≡ true
      on_first x y e = grind arith

      never : (k : ℕ) (r : Request) → startable κ c k r ≡ true → ⊥
      never k idle e = clash e refl
      never k (wants a o p probing) e = clash e refl
      never k (wants a o p fetching) e = clash e refl
      never k (wants a o p queued) e = clash (on_first (c.on k) _ e) (off k)

      go : (k : ℕ) → (start_at κ k c).0 ≡ c
      go k = choose (λ (r : State κ × Out). r.0 ≡ c) (can_start κ c k) _ _ (λ u. absurd (never k (c.lines.request k) u)) (λ u. refl)

  -- the first n cores, all stopped and free to send, have swept a place each
  pub record Swept (c : State κ) (n : ℕ) (r : State κ × Out) : Type 0 where
    pub did : r.1.did ≡ []
    pub on : r.0.on ≡ c.on
    pub probe : r.0.hints.probe ≡ c.hints.probe
    pub due : r.0.hints.due ≡ c.hints.due
    pub coming : r.0.lines.coming ≡ c.lines.coming
    pub slot : (p : ℕ) → (r.0.lines.slot p ≡ c.lines.slot p) ⊎ (r.0.lines.slot p ≡ empty)
    pub here : (k : ℕ) → k < n → may_send κ c k ≡ true → r.0.lines.slot (64 * k + c.hints.sweep k % 64) ≡ empty
    pub sweep : (k : ℕ) → may_send κ c k ≡ true → r.0.hints.sweep k ≡ pick (ltb k n) ((c.hints.sweep k + 1) % 64) (c.hints.sweep k)

  is_empty_says : (x : Slot) → is_empty x ≡ true → x ≡ empty
  is_empty_says empty e = refl
  is_empty_says (holds a o d w) e = clash e refl

  put_empty : (f : ℕ → Slot) (q p : ℕ) → (put f q empty p ≡ f p) ⊎ (put f q empty p ≡ empty)
  put_empty f q p = at_put (λ z. (z ≡ f p) ⊎ (z ≡ empty)) f q empty p (λ i. inr refl) (λ i. inl refl)

  module _ (up : ℕ → Bool) (c : State κ) (off : Off c) (n : ℕ) (r : State κ × Out) (h : Swept c n r) where
    send_same : (k : ℕ) → may_send κ r.0 k ≡ may_send κ c k
    send_same k = rw (h.due, h.probe)

    -- core n sends nothing
    kept : may_send κ c n ≡ false → (o : Out) → o.did ≡ [] → Swept c (suc n) (r.0, joined r.1 o)
    kept s o e = record {
      did = rw h.did e;
      on = h.on;
      probe = h.probe;
      due = h.due;
      coming = h.coming;
      slot = h.slot;
      here = λ k l u. h.here k (below k l (λ i. clash u (subst (λ (x : ℕ). may_send κ c x ≡ false) (sym i) s))) u;
      sweep = λ k u. h.sweep k u ∙ ap (λ (b : Bool). pick b ((c.hints.sweep k + 1) % 64) (c.hints.sweep k)) (sym (ltb_next k n (λ i. clash u (subst (λ (x : ℕ). may_send κ c x ≡ false) (sym i) s))));
    }
      where
        below : (k : ℕ) → k < suc n → k ≢ n → k < n
        below k l e = omega arith

    sweep_here : may_send κ c n ≡ true → r.0.hints.sweep n ≡ c.hints.sweep n
    sweep_here u = h.sweep n u ∙ ap (λ (b : Bool). pick b ((c.hints.sweep n + 1) % 64) (c.hints.sweep n)) (ltb_self n).0

    sweep_on : may_send κ c n ≡ true → (k : ℕ) → may_send κ c k ≡ true →
        put r.0.hints.sweep n ((r.0.hints.sweep n + 1) % 64) k ≡ pick (ltb k (suc n)) ((c.hints.sweep k + 1) % 64) (c.hints.sweep k)
    sweep_on v k u = at_put (λ (z : ℕ). z ≡ pick (ltb k (suc n)) ((c.hints.sweep k + 1) % 64) (c.hints.sweep k)) r.0.hints.sweep n ((r.0.hints.sweep n + 1) % 64) k
        (λ e. ap (λ (x : ℕ). (x + 1) % 64) (sweep_here v) ∙ rw (e, (ltb_self n).1)) (λ e. h.sweep k u ∙ ap (λ (b : Bool). pick b ((c.hints.sweep k + 1) % 64) (c.hints.sweep k)) (sym (ltb_next k n e)))

    spot : may_send κ c n ≡ true → 64 * n + r.0.hints.sweep n % 64 ≡ 64 * n + c.hints.sweep n % 64
    spot u = ap (λ (x : ℕ). 64 * n + x % 64) (sweep_here u)

    below : (k : ℕ) → k < suc n → k ≢ n → k < n
    below k l e = omega arith

    -- the place of the first n, and of this, is empty in any cache g that has less
    all_here : may_send κ c n ≡ true → (g : ℕ → Slot) → ((p : ℕ) → (g p ≡ r.0.lines.slot p) ⊎ (g p ≡ empty)) → g (64 * n + r.0.hints.sweep n % 64) ≡ empty →
        (k : ℕ) → k < suc n → may_send κ c k ≡ true → g (64 * k + c.hints.sweep k % 64) ≡ empty
    all_here v g less now k l u = split (eqb k n) refl
      where
        split : (z : Bool) → eqb k n ≡ z → g (64 * k + c.hints.sweep k % 64) ≡ empty
        split true z = subst (λ (x : ℕ). g (64 * x + c.hints.sweep x % 64) ≡ empty) (sym (same k n z)) (ap g (sym (spot v)) ∙ now)
        split false z = elim (less (64 * k + c.hints.sweep k % 64)) [ inl y ↦ y ∙ h.here k (below k l (differ k n z)) u | inr y ↦ y ]

    all_less : (g : ℕ → Slot) → ((p : ℕ) → (g p ≡ r.0.lines.slot p) ⊎ (g p ≡ empty)) → (p : ℕ) → (g p ≡ c.lines.slot p) ⊎ (g p ≡ empty)
    all_less g less p = elim (less p) [ inl y ↦ elim (h.slot p) [ inl z ↦ inl (y ∙ z) | inr z ↦ inr (y ∙ z) ] | inr y ↦ inr y ]

    abbrev Next : State κ × Out → Type 0
    Next t = Swept c (suc n) (t.0, joined r.1 t.1)

    swept_step : Next (act κ up n r.0)
    swept_step = choose Next (r.0.on n) _ _ (λ o. clash o (ap (λ (x : ℕ → Bool). x n) h.on ∙ off n))
        (λ o. choose Next (may_send κ r.0 n) _ _
        (λ v. let u : may_send κ c n ≡ true = sym (send_same n) ∙ v in
        choose (λ (t : State κ × Out). Next (then (λ d. t) (hint κ (λ d. with_sweep n ((d.hints.sweep n + 1) % 64) d.hints)) r.0)) (is_empty (r.0.lines.slot (64 * n + r.0.hints.sweep n % 64))) _ _
        (λ e. record {
          did = rw h.did;
          on = h.on;
          probe = h.probe;
          due = h.due;
          coming = h.coming;
          slot = h.slot;
          here = all_here u r.0.lines.slot (λ p. inl refl) (is_empty_says (r.0.lines.slot (64 * n + r.0.hints.sweep n % 64)) e);
          sweep = sweep_on u;
        })
        (λ e. record {
          did = rw h.did;
          on = h.on;
          probe = h.probe;
          due = h.due;
          coming = h.coming;
          slot = all_less (put r.0.lines.slot (64 * n + r.0.hints.sweep n % 64) empty) (put_empty r.0.lines.slot (64 * n + r.0.hints.sweep n % 64));
          here = all_here u (put r.0.lines.slot (64 * n + r.0.hints.sweep n % 64) empty) (put_empty r.0.lines.slot (64 * n + r.0.hints.sweep n % 64)) (put_self r.0.lines.slot (64 * n + r.0.hints.sweep n % 64));
          sweep = sweep_on u;
        }))
        (λ v. kept (sym (send_same n) ∙ v) _ refl))
      where
        put_self : (f : ℕ → Slot) (q : ℕ) → put f q empty q ≡ empty
        put_self f q = at_put (λ z. z ≡ empty) f q empty q (λ i. refl) (λ i. absurd (i refl))

  pub sweeping_done : (up : ℕ → Bool) (c : State κ) → Off c → Swept c 4 (each (act κ up) 4 c)
  unfolding each
  sweeping_done up c off = (each_out κ (act κ up) (λ d. Unit {0}) (Swept c) (λ k d x. tt) (λ n r x h. swept_step up c off n r h) 4 c tt
      (record { did = refl; on = refl; probe = refl; due = refl; coming = refl; slot = λ p. inl refl; here = λ k l u. absurd (omega arith); sweep = λ k u. sym (zero_not k (c.hints.sweep k)) })).1
    where
      zero_not : (k s : ℕ) → pick (ltb k 0) ((s + 1) % 64) s ≡ s
      zero_not k s = grind arith

module _ (κ : Kind) (laws : Laws κ) where
  module _ (c : State κ) (m : List (List ℕ)) (s : List (ℕ × ℕ)) (μ : Manual κ.isa) (g : Agrees κ laws c m s μ) (v : Lively κ laws c)
      (xs : List (ℕ × List ℕ)) (true-lines : True (at_line m) xs) (up : ℕ → Bool) (off : (k : ℕ) → c.on k ≡ false) where
    abbrev c₁ : State κ
    c₁ = (deliver κ xs c).0

    abbrev c₂ : State κ
    c₂ = (take_all κ c₁).0

    abbrev c₃ : State κ
    c₃ = (answer_all κ c₂).0

    abbrev r₄ : State κ × Out
    r₄ = act_all κ up c₃

    abbrev c₄ : State κ
    c₄ = r₄.0

    tk : Taken κ laws c₁ 4 c₂
    tk = (taken κ laws c m s μ g v xs true-lines up 0).1

    off₃ : (k : ℕ) → c₃.on k ≡ false
    off₃ k = ap (λ (x : ℕ → Bool). x k) ((answered κ laws c m s μ g v xs true-lines up 0).1.on ∙ tk.on) ∙ off k

    sw : Swept κ c₃ 4 r₄
    sw = sweeping_done κ up c₃ off₃

    pub off₄ : (k : ℕ) → c₄.on k ≡ false
    off₄ k = ap (λ (x : ℕ → Bool). x k) sw.on ∙ off₃ k

    pub ends : (start_next κ c₄).0 ≡ c₄
    ends = start_still κ c₄ off₄

    -- a probe that is left was behind a line
    pub asked_left : (k : ℕ) → is_unasked (c₄.hints.probe k) ≡ false → (is_unasked (c.hints.probe k) ≡ false) × (is_quiet (c.lines.coming k) ≡ false) × (is_quiet (c₄.lines.coming k) ≡ true)
    asked_left k n = let z = asked_yet κ laws c m s μ g v xs true-lines up 0 k (ap (λ (t : ℕ → Probe). is_unasked (t k)) (sym sw.probe) ∙ n) in
        (z.0, z.1, ap (λ (h : ℕ → Grant). is_quiet (h k)) sw.coming ∙ z.2)

    module _ (u : (k : ℕ) → is_unasked (c.hints.probe k) ≡ true) where
      pub unasked_still : (k : ℕ) → is_unasked (c₄.hints.probe k) ≡ true
      unasked_still k = not_false (is_unasked (c₄.hints.probe k)) (λ n. clash (u k) (asked_left k n).0)

      same₃ : c₃ ≡ c₂
      same₃ = answers_still κ 4 c₂ (λ k. ap (λ (h : Hints). is_unasked (h.probe k)) tk.hints ∙ u k)

      pub now_quiet : (k : ℕ) → k < 4 → c₄.lines.coming k ≡ quiet
      now_quiet k l = ap (λ (h : ℕ → Grant). h k) sw.coming ∙ ap (λ (x : State κ). x.lines.coming k) same₃ ∙ tk.coming k ∙ rw (less_four k l, u k)

      slot₃ : (p : ℕ) → p / 64 < 4 → c₃.lines.slot p ≡ filled (c₁.lines.coming (p / 64)) c₁.lines.slot p
      slot₃ p l = ap (λ (x : State κ). x.lines.slot p) same₃ ∙ tk.slot p ∙ rw (less_four (p / 64) l, u (p / 64))

      hints₃ : c₃.hints ≡ c₁.hints
      hints₃ = ap (λ (x : State κ). x.hints) same₃ ∙ tk.hints

      send₃ : (k : ℕ) → may_send κ c₃ k ≡ true
      send₃ k = rw (hints₃, u k)

      pub swept_now : (k : ℕ) → k < 4 → c₄.lines.slot (64 * k + c.hints.sweep k % 64) ≡ empty
      swept_now k l = ap (λ (h : Hints). c₄.lines.slot (64 * k + h.sweep k % 64)) (sym hints₃) ∙ sw.here k l (send₃ k)

      pub sweep_next : (k : ℕ) → k < 4 → c₄.hints.sweep k ≡ (c.hints.sweep k + 1) % 64
      sweep_next k l = sw.sweep k (send₃ k) ∙ rw (less_four k l) (ap (λ (h : Hints). (h.sweep k + 1) % 64) hints₃)

      clean_fill : (h : Grant) (f : ℕ → Slot) (p : ℕ) → ((q a : ℕ) (y : Slot) → h ≡ grant q y → dirties y a ≡ false) → Clean (f p) → Clean (filled h f p)
      clean_fill quiet f p n e = e
      clean_fill (grant q y) f p n e = λ a. at_put (λ z. dirties z a ≡ false) f q y p (λ i. n q a y refl) (λ i. e a)

      clean_end : (p : ℕ) → (c₄.lines.slot p ≡ c₃.lines.slot p) ⊎ (c₄.lines.slot p ≡ empty) → Clean (c₃.lines.slot p) → Clean (c₄.lines.slot p)
      clean_end p (inl z) e a = ap (λ (x : Slot). dirties x a) z ∙ e a
      clean_end p (inr z) e a = ap (λ (x : Slot). dirties x a) z

      pub clean_still : ((k : ℕ) → k < 4 → c.lines.coming k ≡ quiet) → (p : ℕ) → p / 64 < 4 → Clean (c.lines.slot p) → Clean (c₄.lines.slot p)
      clean_still q p l e = clean_end p (sw.slot p) (subst Clean (sym (slot₃ p l)) (clean_fill (c₁.lines.coming (p / 64)) c₁.lines.slot p come (subst (λ (h : ℕ → Slot). Clean (h p)) (sym (all_slot 4 xs c.lines)) e)))
        where
          not_quiet : {P : Type 0} (r : ℕ) (y : Slot) → quiet ≡ grant r y → P
          not_quiet r y h = clash (ap is_quiet (sym h)) refl

          same_grant : (r q : ℕ) (x y : Slot) → grant r x ≡ grant q y → x ≡ y
          same_grant r q x y h = cc

          come : (r a : ℕ) (y : Slot) → c₁.lines.coming (p / 64) ≡ grant r y → dirties y a ≡ false
          come r a y h = elim (all_came 4 xs c.lines (p / 64)) [
            | inl z ↦ not_quiet r y (sym (q (p / 64) l) ∙ sym z.1 ∙ h)
            | inr z ↦ ap (λ (x : Slot). dirties x a) (sym (same_grant z.1 r (holds z.0 true false z.3) y (sym z.6 ∙ h)))
          ]
