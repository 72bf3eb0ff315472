-- In a cycle in which the core whose turn it is does no instruction, it comes nearer to one.
use Rattle.std.proofs.Common.{◌≡◌, ℕ, zero, suc, ◌+◌, ◌*◌, ◌/◌, ◌<◌, ◌≤◌, Bool, true, false, not, ◌&&◌, ◌||◌, eqb, ◌≢◌, ◌⊎◌, List, [], ◌∷◌, sym, refl, ap, ◌∙◌, subst, inl, inr, mul-le-mul_left, arith}
use mathlib.Core.Bool.{false≢true}
use Rattle.cores.specs.Board.{Out}
use Rattle.cores.specs.Loop.{each}
use Rattle.cores.specs.Machines.{Manual, pick}
use Rattle.cores.specs.Put.{put}
use Rattle.cores.proofs.Basics.{choose, same, differ}
use Rattle.cached.specs.Soc.{Hints, State, act, answer_probe, can_start, lacked, deliver, startable, start_next, stepped, take_due, with_lead, with_hints, with_lines_of}
use Rattle.cached.specs.Coherent.{Asks, Bound, Fair, view}
use Rattle.directory.specs.Directory.{Entry, Request, Stage, busy, fetches, fetching, free, held, idle, is_idle, keeps, probing, question, queued, tag, unhurried, wants}
use Rattle.cached.specs.Kind.{Kind, Laws, code, operand}
use Rattle.cached.specs.Lines.{asks}
use Rattle.link.specs.Messages.{Grant, Probe, all_unasked, filled, grant, is_quiet, is_unasked, over, quiet}
use Rattle.cached.specs.Rank.{any_stuck, asking, fetched, further, given, is_probing, left, number, out_of, remaining, requests_left, sent, stuck, until_taken, wait, waits}
use Rattle.cache.specs.Slots.{home, lacks, Lack, Slot, cached, empty, first, has, holds, ready, seek}
use Rattle.cached.proofs.Steps.{True, home_place}
use Rattle.cached.proofs.Acting.{AskedFor, Broke, Going, Waited, actings_done, single}
use Rattle.cached.proofs.Base.{at_put, clash, not_false, eqb_self, less_four}
use Rattle.cached.proofs.Cases.{Starts, start_cases}
use Rattle.cached.proofs.Delivery.{all_came, all_given, all_slot, came_fetches}
use Rattle.cached.proofs.Facts.{not_ready, stuck_free, fetch_small, far_three}
use Rattle.cached.proofs.Distance.{Single, take_nearer, plain}
use Rattle.cached.proofs.Agrees.{Agrees}
use Rattle.cached.proofs.Lists.{at_line}
use Rattle.cached.proofs.Views.{further_same, left_same, need_same}
use Rattle.cached.proofs.Phases.{Acting, Answering, Lively, asked_small, nobody_probes, place_held}
use Rattle.cached.proofs.TakeAnswer.{Answered, Taken, answerings_done, opened, takings_done}
use Rattle.cached.proofs.Row.{raise_far}

-- small facts of the tests over four cores
some_asked : (t : ℕ → Probe) → all_unasked t ≡ false → (k : ℕ) × (k < 4) × (is_unasked (t k) ≡ false)
some_asked t e = go (is_unasked (t 0)) (is_unasked (t 1)) (is_unasked (t 2)) (is_unasked (t 3)) refl refl refl refl e
  where
    go : (a b c d : Bool) → is_unasked (t 0) ≡ a → is_unasked (t 1) ≡ b → is_unasked (t 2) ≡ c → is_unasked (t 3) ≡ d → (a && b && c && d) ≡ false → (k : ℕ) × (k < 4) × (is_unasked (t k) ≡ false)
    go false b c d i j k l e = (0, omega arith, i)
    go true false c d i j k l e = (1, omega arith, j)
    go true true false d i j k l e = (2, omega arith, k)
    go true true true false i j k l e = (3, omega arith, l)
    go true true true true i j k l e = clash refl e

stuck_one : (t : Probe) (g : Grant) → is_unasked t ≡ false → is_quiet g ≡ false → stuck t g ≡ true
stuck_one t g u q = grind arith

any_at : (b : ℕ → Bool) (k : ℕ) → k < 4 → b k ≡ true → (b 0 || b 1 || b 2 || b 3) ≡ true
any_at b zero l h = first_of (b 0) (b 1) (b 2) (b 3) h
  where
    first_of : (x y z w : Bool) → x ≡ true → (x || y || z || w) ≡ true
    first_of x y z w e = grind arith
any_at b (suc zero) l h = second_of (b 0) (b 1) (b 2) (b 3) h
  where
    second_of : (x y z w : Bool) → y ≡ true → (x || y || z || w) ≡ true
    second_of x y z w e = grind arith
any_at b (suc (suc zero)) l h = third_of (b 0) (b 1) (b 2) (b 3) h
  where
    third_of : (x y z w : Bool) → z ≡ true → (x || y || z || w) ≡ true
    third_of x y z w e = grind arith
any_at b (suc (suc (suc zero))) l h = last_of (b 0) (b 1) (b 2) (b 3) h
  where
    last_of : (x y z w : Bool) → w ≡ true → (x || y || z || w) ≡ true
    last_of x y z w e = grind arith
any_at b (suc (suc (suc (suc k)))) l h = absurd (omega arith)

stuck_any : (t : ℕ → Probe) (g : ℕ → Grant) (k : ℕ) → k < 4 → stuck (t k) (g k) ≡ true → any_stuck t g ≡ true
stuck_any t g k l h = any_at (λ i. stuck (t i) (g i)) k l h

fetched_some : (r : ℕ → Request) (a : ℕ) → fetched r a ≡ true → (k : ℕ) × (k < 4) × (fetches (r k) a ≡ true)
fetched_some r a e = go (fetches (r 0) a) (fetches (r 1) a) (fetches (r 2) a) (fetches (r 3) a) refl refl refl refl e
  where
    go : (x y z w : Bool) → fetches (r 0) a ≡ x → fetches (r 1) a ≡ y → fetches (r 2) a ≡ z → fetches (r 3) a ≡ w → (x || y || z || w) ≡ true → (k : ℕ) × (k < 4) × (fetches (r k) a ≡ true)
    go true y z w i j k l e = (0, omega arith, i)
    go false true z w i j k l e = (1, omega arith, j)
    go false false true w i j k l e = (2, omega arith, k)
    go false false false true i j k l e = (3, omega arith, l)
    go false false false false i j k l e = clash e refl

fetched_any : (r : ℕ → Request) (a k : ℕ) → k < 4 → fetches (r k) a ≡ true → fetched r a ≡ true
fetched_any r a k l h = any_at (λ i. fetches (r i) a) k l h

unhurried_some : (r : ℕ → Request) (a n : ℕ) → unhurried r a n ≡ false → (k : ℕ) × (k < n) × (busy (r k) a ≡ true)
unfolding unhurried
unhurried_some r a zero e = clash refl e
unhurried_some r a (suc n) e = go (unhurried_some r a n) (busy (r n) a) refl e
  where
    go : (unhurried r a n ≡ false → (k : ℕ) × (k < n) × (busy (r k) a ≡ true)) → (b : Bool) → busy (r n) a ≡ b → pick b false (unhurried r a n) ≡ false → (k : ℕ) × (k < suc n) × (busy (r k) a ≡ true)
    go ih true i e = (n, omega arith, i)
    go ih false i e = let z = ih e in let l : z.0 < n = z.1 in (z.0, omega arith, z.2)

busy_is : (q : Request) (a : ℕ) → busy q a ≡ true → (fetches q a ≡ true) ⊎ (is_probing q ≡ true)
busy_is idle a e = clash e refl
busy_is (wants b o p queued) a e = clash e refl
busy_is (wants b o p probing) a e = inr refl
busy_is (wants b o p fetching) a e = inl e

abbrev pub is_queued : Request → Bool
is_queued idle = false
is_queued (wants a o p queued) = true
is_queued (wants a o p probing) = false
is_queued (wants a o p fetching) = false

abbrev is_fetching : Request → Bool
is_fetching idle = false
is_fetching (wants a o p queued) = false
is_fetching (wants a o p probing) = false
is_fetching (wants a o p fetching) = true

served_same : (q : Request) (g : Grant) (r : Request) (h : Grant) → is_probing q ≡ false →
    ((r ≡ q) × (h ≡ g)) ⊎ ((a s : ℕ) × (o : Bool) × (y : Slot) × (q ≡ wants a o s probing) × (r ≡ idle) × (h ≡ grant s y) × (sent (grant s y) ≡ lacks a o)) → (r ≡ q) × (h ≡ g)
served_same q g r h n (inl z) = z
served_same q g r h n (inr z) = clash (ap is_probing z.4) n

-- messages before and after a cycle without a request
quiet_after : (t : Probe) (g : Grant) → is_quiet (pick (is_unasked t || not (is_quiet g)) quiet g) ≡ true
quiet_after t g = grind arith

count_idle : (x y z w : Bool) → z ≡ true → (w ≡ false → (y ≡ false) × (x ≡ false)) →
    (1 + number (not z) + number (not w) + 1 ≤ 1 + number (not x) + number (not y)) ⊎ (((x ≡ true) × (y ≡ true)) × (1 + number (not z) + number (not w) ≤ 1 + number (not x) + number (not y)))
count_idle x y z false e h = let u = h refl in inl (rw (e, u.0, u.1) (omega arith))
count_idle true true z true e h = inr ((refl, refl), rw e (omega arith))
count_idle false y z true e h = inl (rw e (omega arith))
count_idle true false z true e h = inl (rw e (omega arith))

count_two : (x y : Bool) → y ≡ true → 1 + number (not x) + number (not y) ≤ 2
count_two true y e = rw e (omega arith)
count_two false y e = rw e (omega arith)

-- a request in another stage
abbrev staged : Stage → Request → Request
staged s idle = idle
staged s (wants a o p t) = wants a o p s

true_false : (b : Bool) → (b ≡ true → ⊥) → b ≡ false
true_false true h = absurd (h refl)
true_false false h = refl

-- the sum falls
fall_wait : (b t₀ t₁ x₀ x₁ n : ℕ) → t₁ + 1 ≤ t₀ → x₁ ≤ x₀ → t₁ + b * x₁ + n + 1 ≤ t₀ + b * x₀ + n
fall_wait b t₀ t₁ x₀ x₁ n h i = let z : b * x₁ ≤ b * x₀ = mul-le-mul_left b i in omega arith

fall_broke : (b t₀ t₁ x₀ x₁ : ℕ) → t₁ ≤ t₀ → x₁ ≤ 3 → t₁ + b * x₁ + 0 * (3 * b + 1) + 1 ≤ t₀ + b * x₀ + 1 * (3 * b + 1)
fall_broke b t₀ t₁ x₀ x₁ h i = let z : b * x₁ ≤ b * 3 = mul-le-mul_left b i in omega arith

fall_send : (b t₀ t₁ x₀ x₁ n : ℕ) → t₁ ≤ b → 1 ≤ t₀ → x₁ + 1 ≤ x₀ → t₁ + b * x₁ + n + 1 ≤ t₀ + b * x₀ + n
fall_send b t₀ t₁ x₀ x₁ n h i j = let z : b * (x₁ + 1) ≤ b * x₀ = mul-le-mul_left b j in omega arith

module _ (κ : Kind) (laws : Laws κ) where
  -- what the start of a request does to core f, whose turn it is: before c, after d, with the lines v asked for
  pub record Started (f : ℕ) (c d : State κ) (v : List ℕ) : Type 0 where
    pub coming : d.lines.coming ≡ c.lines.coming
    pub slot : d.lines.slot ≡ c.lines.slot
    pub cpu : d.cpu ≡ c.cpu
    pub size : d.size ≡ c.size
    pub count : d.count ≡ c.count
    pub turn : d.hints.turn ≡ c.hints.turn
    pub on : d.on ≡ c.on
    pub probe : is_unasked (c.hints.probe f) ≡ true → is_unasked (d.hints.probe f) ≡ true
    pub asking_on : all_unasked c.hints.probe ≡ false → d.hints.probe ≡ c.hints.probe
    pub out : out_of (d.lines.request f) (d.lines.coming f) ≡ out_of (c.lines.request f) (c.lines.coming f)
    pub request : is_queued (c.lines.request f) ≡ false → d.lines.request f ≡ c.lines.request f
    pub fetch : (i a : ℕ) → fetches (d.lines.request i) a ≡ true → (fetches (c.lines.request i) a ≡ true) ⊎ (v ≡ a ∷ [])
    pub queue : (a p : ℕ) (o : Bool) → c.lines.request f ≡ wants a o p queued → c.on f ≡ true → (d.lines.request f ≡ wants a o p fetching) ⊎ ((d.lines.request f ≡ wants a o p probing)
        ⊎ ((d.lines.request f ≡ wants a o p queued) × (((fetched d.lines.request a ≡ true) × (fetched c.lines.request a ≡ true))
        ⊎ ((fetched d.lines.request a ≡ false) × (all_unasked c.hints.probe ≡ false) × (d.hints.probe ≡ c.hints.probe)))))

  -- one cycle, from the chip c, with lines xs, to the chip c₄ before a request is started
  module _ (c : State κ) (m : List (List ℕ)) (s : List (ℕ × ℕ)) (μ : Manual κ.isa) (g : Agrees κ laws c m s μ) (v : Lively κ laws c)
      (xs : List (ℕ × List ℕ)) (true-lines : True (at_line m) xs) (up : ℕ → Bool) (f : ℕ) where
    abbrev c₁ : State κ
    c₁ = (deliver κ xs c).0

    abbrev c₂ : State κ
    c₂ = (each (take_due κ) 4 c₁).0

    abbrev c₃ : State κ
    c₃ = (each (answer_probe κ) 4 c₂).0

    abbrev r₄ : State κ × Out
    r₄ = each (act κ up) 4 c₃

    abbrev c₄ : State κ
    c₄ = r₄.0

    a₁ : Answering κ laws c₁
    a₁ = opened κ laws c m s μ xs true-lines g v

    pub taken : Answering κ laws c₂ × Taken κ laws c₁ 4 c₂
    taken = takings_done κ laws c₁ a₁

    clear₂ : (k : ℕ) → is_unasked (c₂.hints.probe k) ≡ false → c₂.hints.due k ≡ true → is_quiet (c₂.lines.coming k) ≡ true
    clear₂ k n u = let t = taken.1 in ap is_quiet (t.coming k)
        ∙ rw (less_four k (asked_small κ laws c₂ taken.0.sound taken.0.live k n), ap (λ (h : Hints). h.due k) (sym t.hints) ∙ u)

    pub answered : Answering κ laws c₃ × Answered κ laws f c₂ 4 c₃
    answered = answerings_done κ laws f c₂ taken.0 clear₂

    b₃ : Acting κ laws c₃
    b₃ = record { sound = answered.0.sound; live = answered.0.live }

    pub acts : Acting κ laws c₄ × Going κ laws f c₃ 4 r₄
    acts = actings_done κ laws up f c₃ b₃

    due_is : (k : ℕ) → c₃.hints.due k ≡ (is_unasked (c.hints.probe k) || not (is_quiet (c.lines.coming k)))
    due_is k = ap (λ (x : ℕ → Bool). x k) answered.1.due ∙ ap (λ (h : Hints). h.due k) taken.1.hints

    -- who is still asked had a line before the probe, which it has taken
    pub asked_yet : (k : ℕ) → is_unasked (c₃.hints.probe k) ≡ false → (is_unasked (c.hints.probe k) ≡ false) × (is_quiet (c.lines.coming k) ≡ false) × (is_quiet (c₃.lines.coming k) ≡ true)
    asked_yet k n = (told₀, quiet₀, answered.1.clear k n due₂)
      where
        told₂ : c₂.hints.probe k ≡ c.hints.probe k
        told₂ = ap (λ (h : Hints). h.probe k) taken.1.hints

        told₀ : is_unasked (c.hints.probe k) ≡ false
        told₀ = true_false (is_unasked (c.hints.probe k)) (λ u. clash (answered.1.fewer k (ap is_unasked told₂ ∙ u)) n)

        due₂ : c₂.hints.due k ≡ true
        due₂ = not_false (c₂.hints.due k) (λ u. clash (answered.1.done k (asked_small κ laws c₃ answered.0.sound answered.0.live k n) u) n)

        quiet₀ : is_quiet (c.lines.coming k) ≡ false
        quiet₀ = last_of (is_unasked (c.hints.probe k)) (is_quiet (c.lines.coming k)) (sym (due_is k) ∙ ap (λ (x : ℕ → Bool). x k) answered.1.due ∙ due₂) told₀
          where
            last_of : (x y : Bool) → (x || not y) ≡ true → x ≡ false → y ≡ false
            last_of x y e n = grind arith

    -- a line that is fetched now was fetched before, and has not come
    pub fetch_back : (i a : ℕ) → fetches (c₄.lines.request i) a ≡ true → (fetches (c.lines.request i) a ≡ true) × (given a xs ≡ false)
    fetch_back i a u =
        let h : fetches (c₁.lines.request i) a ≡ true = sym (acts.1.fetch i a ∙ answered.1.fetch i a ∙ ap (λ (r : ℕ → Request). fetches (r i) a) taken.1.request) ∙ u in
        (came_fetches _ _ _ _ a (all_came 4 xs c.lines i) h, all_given 4 xs c.lines i a (fetch_small (c₄.lines.request i) i a c₄.size c₄.lines.entry c₄.lines.coming (acts.0.sound.agrees.safe.tidy.fair i) u) h)

    stuck₀ : all_unasked c₄.hints.probe ≡ false → any_stuck c.hints.probe c.lines.coming ≡ true
    stuck₀ n = let z = some_asked c₄.hints.probe n in
        let y = asked_yet z.0 (ap (λ (t : ℕ → Probe). is_unasked (t z.0)) (sym acts.1.probe) ∙ z.2) in
        stuck_any c.hints.probe c.lines.coming z.0 z.1 (stuck_one (c.hints.probe z.0) (c.lines.coming z.0) y.0 y.1)

    free₄ : any_stuck c₄.hints.probe c₄.lines.coming ≡ false
    free₄ = stuck_free c₄.hints.probe c₄.lines.coming (λ k n. ap (λ (h : ℕ → Grant). is_quiet (h k)) acts.1.coming ∙ (asked_yet k (ap (λ (t : ℕ → Probe). is_unasked (t k)) (sym acts.1.probe) ∙ n)).2)

    -- a request of the turn that cannot be started
    module _ (favoured : c.hints.turn ≡ f) where
      turn₄ : c₄.hints.turn ≡ f
      turn₄ = acts.1.turn ∙ answered.1.turn ∙ ap (λ (h : Hints). h.turn) taken.1.hints ∙ favoured

      blocked : (a p : ℕ) (o : Bool) → c₄.lines.request f ≡ wants a o p queued → c₄.on f ≡ true → can_start κ c₄ c₄.hints.turn ≡ false →
          (fetched c₄.lines.request a ≡ true) ⊎ (all_unasked c₄.hints.probe ≡ false)
      blocked a p o e w n = go (unhurried c₄.lines.request a 4) refl
        where
          no : startable κ c₄ f (wants a o p queued) ≡ false
          no = subst (λ (q : Request). startable κ c₄ f q ≡ false) e (subst (λ (t : ℕ). can_start κ c₄ t ≡ false) turn₄ n)

          mine : eqb f c₄.hints.turn ≡ true
          mine = subst (λ (t : ℕ). eqb f t ≡ true) (sym turn₄) (eqb_self f)

          last_test : (o x y z w k : Bool) → o ≡ true → x ≡ true → w ≡ true → (o && (x && (y || (z && (w || k))))) ≡ false → z ≡ false
          last_test o x y z w k i j h n = grind arith

          go : (b : Bool) → unhurried c₄.lines.request a 4 ≡ b → (fetched c₄.lines.request a ≡ true) ⊎ (all_unasked c₄.hints.probe ≡ false)
          go true u = inr (last_test (c₄.on f) (unhurried c₄.lines.request a 4) (free c₄.lines.entry a 4) (all_unasked c₄.hints.probe) (eqb f c₄.hints.turn) (not (keeps c₄.lines.entry a c₄.hints.turn)) w u mine no)
          go false u = let z = unhurried_some c₄.lines.request a 4 u in elim (busy_is (c₄.lines.request z.0) a z.2) [
            | inl h ↦ inl (fetched_any c₄.lines.request a z.0 z.1 h)
            | inr h ↦ inr (true_false (all_unasked c₄.hints.probe) (λ x. clash h (nobody_probes κ laws c₄ acts.0.sound acts.0.live x z.0)))
          ]

      queued_is : (q : Request) (a p : ℕ) (o : Bool) → q ≡ wants a o p queued → is_queued q ≡ true
      queued_is q a p o e = rw e

      queued_fetch : (q : Request) (a p b : ℕ) (o : Bool) → q ≡ wants a o p queued → fetches q b ≡ false
      queued_fetch q a p b o e = rw e

      put_here : {A : Type 0} (h : ℕ → A) (k : ℕ) (x : A) → put h k x k ≡ x
      put_here h k x = at_put (λ z. z ≡ x) h k x k (λ e. refl) (λ n. absurd (n refl))

      put_other : {A : Type 0} (h : ℕ → A) (k : ℕ) (x : A) (i : ℕ) → i ≢ k → put h k x i ≡ h i
      put_other h k x i n = at_put (λ z. z ≡ h i) h k x i (λ e. absurd (n e)) (λ e. refl)

      same_out : (k a p : ℕ) (o : Bool) (st : Stage) → c₄.lines.request k ≡ wants a o p queued → out_of (put c₄.lines.request k (wants a o p st) f) (c₄.lines.coming f) ≡ out_of (c₄.lines.request f) (c₄.lines.coming f)
      same_out k a p o st e = at_put (λ z. out_of z (c₄.lines.coming f) ≡ out_of (c₄.lines.request f) (c₄.lines.coming f)) c₄.lines.request k (wants a o p st) f (λ i. rw (i, e)) (λ n. refl)

      same_request : (k a p : ℕ) (o : Bool) (x : Request) → c₄.lines.request k ≡ wants a o p queued → is_queued (c₄.lines.request f) ≡ false → put c₄.lines.request k x f ≡ c₄.lines.request f
      same_request k a p o x e n = put_other c₄.lines.request k x f (λ i. clash (queued_is (c₄.lines.request f) a p o (rw i e)) n)

      restage : (k a p b q : ℕ) (o u : Bool) (st : Stage) → f ≡ k → c₄.lines.request k ≡ wants b u q queued → c₄.lines.request f ≡ wants a o p queued → put c₄.lines.request k (wants b u q st) f ≡ wants a o p st
      restage k a p b q o u st i e h = ap (put c₄.lines.request k (wants b u q st)) i ∙ put_here c₄.lines.request k (wants b u q st) ∙ ap (staged st) (sym e ∙ ap c₄.lines.request (sym i) ∙ h)

      -- a line is still fetched while another request is started
      fetched_on : (k b q a : ℕ) (u : Bool) (x : Request) → c₄.lines.request k ≡ wants b u q queued → fetched c₄.lines.request a ≡ true → fetched (put c₄.lines.request k x) a ≡ true
      fetched_on k b q a u x e h = let z = fetched_some c₄.lines.request a h in
          fetched_any (put c₄.lines.request k x) a z.0 z.1 (ap (λ (y : Request). fetches y a) (put_other c₄.lines.request k x z.0 (λ i. clash z.2 (queued_fetch (c₄.lines.request z.0) b q a u (rw i e)))) ∙ z.2)

      new_fetch : (k b q : ℕ) (u : Bool) (i a : ℕ) → fetches (put c₄.lines.request k (wants b u q fetching) i) a ≡ true → (fetches (c₄.lines.request i) a ≡ true) ⊎ (b ≡ a)
      new_fetch k b q u i a = at_put (λ z. fetches z a ≡ true → (fetches (c₄.lines.request i) a ≡ true) ⊎ (b ≡ a)) c₄.lines.request k (wants b u q fetching) i (λ e h. inr (same b a h)) (λ n h. inl h)

      -- nobody else may start to fetch the line that the turn waits for
      first_in : (a p : ℕ) (o : Bool) → c₄.lines.request f ≡ wants a o p queued → c₄.on f ≡ true → unhurried c₄.lines.request a 4 ≡ true → free c₄.lines.entry a 4 ≡ true → can_start κ c₄ c₄.hints.turn ≡ true
      first_in a p o e w u h = subst (λ (t : ℕ). can_start κ c₄ t ≡ true) (sym turn₄)
          (subst (λ (q : Request). startable κ c₄ f q ≡ true) (sym e) (all_true (c₄.on f) (unhurried c₄.lines.request a 4) (free c₄.lines.entry a 4) _ w u h))
        where
          all_true : (o x y z : Bool) → o ≡ true → x ≡ true → y ≡ true → (o && (x && (y || z))) ≡ true
          all_true o x y z i j k = grind arith

      turn_first : (k : ℕ) → (can_start κ c₄ c₄.hints.turn ≡ true → k ≡ c₄.hints.turn) → f ≢ k → can_start κ c₄ c₄.hints.turn ≡ false
      turn_first k h n = true_false _ (λ u. n (sym (h u ∙ turn₄)))

      abbrev QueueEnd : (d : State κ) (a p : ℕ) (o : Bool) → Type 0
      QueueEnd d a p o = (d.lines.request f ≡ wants a o p fetching) ⊎ ((d.lines.request f ≡ wants a o p probing)
          ⊎ ((d.lines.request f ≡ wants a o p queued) × (((fetched d.lines.request a ≡ true) × (fetched c₄.lines.request a ≡ true))
          ⊎ ((fetched d.lines.request a ≡ false) × (all_unasked c₄.hints.probe ≡ false) × (d.hints.probe ≡ c₄.hints.probe)))))

      not_both : (a p : ℕ) (o : Bool) → c₄.lines.request f ≡ wants a o p queued → c₄.on f ≡ true → can_start κ c₄ c₄.hints.turn ≡ false → fetched c₄.lines.request a ≡ false → all_unasked c₄.hints.probe ≡ false
      not_both a p o e w n h = elim (blocked a p o e w n) [ inl x ↦ clash x h | inr x ↦ x ]

      queue_none : can_start κ c₄ c₄.hints.turn ≡ false → (a p : ℕ) (o : Bool) → c₄.lines.request f ≡ wants a o p queued → c₄.on f ≡ true → QueueEnd c₄ a p o
      queue_none n a p o e w = inr (inr (e, go (fetched c₄.lines.request a) refl))
        where
          go : (b : Bool) → fetched c₄.lines.request a ≡ b → ((fetched c₄.lines.request a ≡ true) × (fetched c₄.lines.request a ≡ true)) ⊎ ((fetched c₄.lines.request a ≡ false) × (all_unasked c₄.hints.probe ≡ false) × (c₄.hints.probe ≡ c₄.hints.probe))
          go true h = inl (h, h)
          go false h = inr (h, not_both a p o e w n h, refl)

      queue_fetch : (k b q : ℕ) (u : Bool) → c₄.lines.request k ≡ wants b u q queued → unhurried c₄.lines.request b 4 ≡ true → free c₄.lines.entry b 4 ≡ true →
          (can_start κ c₄ c₄.hints.turn ≡ true → k ≡ c₄.hints.turn) → (a p : ℕ) (o : Bool) → c₄.lines.request f ≡ wants a o p queued → c₄.on f ≡ true →
          QueueEnd (with_lines_of κ (asks k (wants b u q fetching) c₄.lines) c₄) a p o
      queue_fetch k b q u e h i first a p o j w = split (eqb f k) refl
        where
          none : f ≢ k → fetched c₄.lines.request a ≡ false → fetched (put c₄.lines.request k (wants b u q fetching)) a ≡ false
          none n x = true_false _ (λ y. let z = fetched_some (put c₄.lines.request k (wants b u q fetching)) a y in elim (new_fetch k b q u z.0 a z.2) [
            | inl t ↦ clash (fetched_any c₄.lines.request a z.0 z.1 t) x
            | inr t ↦ clash (first_in a p o j w (subst (λ (y : ℕ). unhurried c₄.lines.request y 4 ≡ true) t h) (subst (λ (y : ℕ). free c₄.lines.entry y 4 ≡ true) t i)) (turn_first k first n)
          ])

          other : f ≢ k → (y : Bool) → fetched c₄.lines.request a ≡ y → ((fetched (put c₄.lines.request k (wants b u q fetching)) a ≡ true) × (fetched c₄.lines.request a ≡ true))
              ⊎ ((fetched (put c₄.lines.request k (wants b u q fetching)) a ≡ false) × (all_unasked c₄.hints.probe ≡ false) × (c₄.hints.probe ≡ c₄.hints.probe))
          other n true x = inl (fetched_on k b q a u (wants b u q fetching) e x, x)
          other n false x = inr (none n x, not_both a p o j w (turn_first k first n) x, refl)

          split : (z : Bool) → eqb f k ≡ z → QueueEnd (with_lines_of κ (asks k (wants b u q fetching) c₄.lines) c₄) a p o
          split true z = inl (restage k a p b q o u fetching (same f k z) e j)
          split false z = inr (inr (put_other c₄.lines.request k (wants b u q fetching) f (differ f k z) ∙ j, other (differ f k z) (fetched c₄.lines.request a) refl))

      queue_probe : (k b q : ℕ) (u : Bool) → c₄.lines.request k ≡ wants b u q queued → all_unasked c₄.hints.probe ≡ true →
          (can_start κ c₄ c₄.hints.turn ≡ true → k ≡ c₄.hints.turn) → (a p : ℕ) (o : Bool) → c₄.lines.request f ≡ wants a o p queued → c₄.on f ≡ true →
          QueueEnd (with_hints κ (with_lead (question c₄.lines.entry b u) k c₄.hints) (with_lines_of κ (asks k (wants b u q probing) c₄.lines) c₄)) a p o
      queue_probe k b q u e t first a p o j w = split (eqb f k) refl
        where
          other : f ≢ k → fetched c₄.lines.request a ≡ true
          other n = elim (blocked a p o j w (turn_first k first n)) [ inl x ↦ x | inr x ↦ clash t x ]

          split : (z : Bool) → eqb f k ≡ z → QueueEnd (with_hints κ (with_lead (question c₄.lines.entry b u) k c₄.hints) (with_lines_of κ (asks k (wants b u q probing) c₄.lines) c₄)) a p o
          split true z = inr (inl (restage k a p b q o u probing (same f k z) e j))
          split false z = inr (inr (put_other c₄.lines.request k (wants b u q probing) f (differ f k z) ∙ j, inl (fetched_on k b q a u (wants b u q probing) e (other (differ f k z)), other (differ f k z))))

      -- the core whose turn it is, is not asked
      not_asked : (b : ℕ) (u : Bool) → held (c₄.lines.entry (home f b)) b ≡ false → held (c₄.lines.entry (suc (home f b))) b ≡ false → is_unasked (question c₄.lines.entry b u f) ≡ true
      not_asked b u x y = rw (x, y)

      spared : (k b q : ℕ) (u : Bool) → c₄.lines.request k ≡ wants b u q queued → (eqb k c₄.hints.turn || not (keeps c₄.lines.entry b c₄.hints.turn)) ≡ true → is_unasked (question c₄.lines.entry b u f) ≡ true
      spared k b q u e h = split (eqb k f) refl
        where
          own : k ≡ f → Asks c₄.size c₄.lines.entry c₄.lines.coming f b q
          own i = subst (Fair c₄.size c₄.lines.entry c₄.lines.coming f) (ap c₄.lines.request (sym i) ∙ e) (acts.0.sound.agrees.safe.tidy.fair f)

          others : (x y z : Bool) → (x || not (y || z)) ≡ true → x ≡ false → (y ≡ false) × (z ≡ false)
          others x y z i n = (grind arith, grind arith)

          split : (z : Bool) → eqb k f ≡ z → is_unasked (question c₄.lines.entry b u f) ≡ true
          split true z = let w = own (same k f z) in not_asked b u (w.lacks (home f b) (home_place f b (home f b) (inl refl)).0) (w.lacks (suc (home f b)) (home_place f b (suc (home f b)) (inr refl)).0)
          split false z = let w = others (eqb k f) (held (c₄.lines.entry (home f b)) b) (held (c₄.lines.entry (suc (home f b))) b) (subst (λ (t : ℕ). (eqb k t || not (keeps c₄.lines.entry b t)) ≡ true) turn₄ h) z in not_asked b u w.0 w.1

      starting : Starts κ c₄ (Started f c₄)
      starting = record {
        none = λ n. record { coming = refl; slot = refl; cpu = refl; size = refl; count = refl; turn = refl; on = refl; probe = λ u. u; asking_on = λ u. refl; out = refl; request = λ u. refl; fetch = λ i a h. inl h; queue = λ a p o e w. queue_none n a p o e w };
        fetch = λ k b q u e h i first. record {
          coming = refl;
          slot = refl;
          cpu = refl;
          size = refl;
          count = refl;
          turn = refl;
          on = refl;
          probe = λ x. x;
          asking_on = λ x. refl;
          out = same_out k b q u fetching e;
          request = λ n. same_request k b q u (wants b u q fetching) e n;
          fetch = λ i a h. elim (new_fetch k b q u i a h) [ inl x ↦ inl x | inr x ↦ inr (ap (λ (z : ℕ). z ∷ []) x) ];
          queue = λ a p o j w. queue_fetch k b q u e h i first a p o j w;
        };
        probe = λ k b q u e h i t p first. record {
          coming = refl;
          slot = refl;
          cpu = refl;
          size = refl;
          count = refl;
          turn = refl;
          on = refl;
          probe = λ x. spared k b q u e p;
          asking_on = λ x. clash t x;
          out = same_out k b q u probing e;
          request = λ n. same_request k b q u (wants b u q probing) e n;
          fetch = λ i a h. inl (at_put (λ z. fetches z a ≡ true → fetches (c₄.lines.request i) a ≡ true) c₄.lines.request k (wants b u q probing) i (λ x y. clash y refl) (λ x y. y) h);
          queue = λ a p o j w. queue_probe k b q u e t first a p o j w;
        };
      }

      pub started : Started f c₄ (start_next κ c₄).0 (start_next κ c₄).1.asks
      started = start_cases κ c₄ (Started f c₄) starting

      module _ (on : c.on f ≡ true) (small : f < c.count) where
        f_small : f < 4
        f_small = let z : c.count ≤ 4 = g.small in omega arith

        on₃ : c₃.on f ≡ true
        on₃ = ap (λ (x : ℕ → Bool). x f) (answered.1.on ∙ taken.1.on) ∙ on

        small₃ : f < c₃.count
        small₃ = subst (λ (x : ℕ). f < x) (sym (answered.1.count ∙ taken.1.count)) small

        -- how many requests more: what comes and is taken does not put core f back, or its instruction can be done
        abbrev R : (ℕ → Slot) → Lack → ℕ
        R h out = requests_left κ c.size (c.cpu f) h f out

        abbrev needed : (ℕ → Slot) → Lack
        needed h = first (seek h f (code κ c.size (c.cpu f))) (seek h f (operand κ c.size (c.cpu f) (cached h f)))

        abbrev out : State κ → Lack
        out e = out_of (e.lines.request f) (e.lines.coming f)

        same_R : (h k : ℕ → Slot) (o : Lack) → ((p : ℕ) → p / 64 ≡ f → k p ≡ h p) → R k o ≡ R h o
        same_R h k o e = left_same f h k e κ c.size (c.cpu f) o

        same_needed : (h k : ℕ → Slot) → ((p : ℕ) → p / 64 ≡ f → k p ≡ h p) → needed k ≡ needed h
        same_needed h k e = need_same f h k e κ c.size (c.cpu f)

        opening : R c₁.lines.slot (out c₁) ≤ R c.lines.slot (out c)
        opening = subst (λ (h : ℕ → Slot). R h (out c₁) ≤ R c.lines.slot (out c)) (sym (all_slot 4 xs c.lines)) (elim (all_came 4 xs c.lines f) [
          | inl z ↦ rw (z.0, z.1) (omega arith)
          | inr z ↦ rw (z.4, z.5, z.6) (raise_far (seek c.lines.slot f (code κ c.size (c.cpu f))) (code κ c.size (c.cpu f)) (operand κ c.size (c.cpu f) (cached c.lines.slot f)) z.0 z.2)
        ])

        module _ (unasked-first : is_unasked (c.hints.probe f) ≡ true) where
          due₁ : c₁.hints.due f ≡ true
          due₁ = rw unasked-first

          slot₂ : (p : ℕ) → p / 64 ≡ f → c₂.lines.slot p ≡ filled (c₁.lines.coming f) c₁.lines.slot p
          slot₂ p e = taken.1.slot p ∙ rw (e, less_four f f_small, unasked-first)

          now_quiet : c₂.lines.coming f ≡ quiet
          now_quiet = taken.1.coming f ∙ rw (less_four f f_small, unasked-first)

          request_two : c₂.lines.request f ≡ c₁.lines.request f
          request_two = ap (λ (r : ℕ → Request). r f) taken.1.request

          idle_one : (p : ℕ) (x : Slot) → c₁.lines.coming f ≡ grant p x → c₁.lines.request f ≡ idle
          idle_one p x e = go (c₁.lines.request f) (a₁.sound.agrees.safe.tidy.fair f)
            where
              go : (q : Request) → Fair c₁.size c₁.lines.entry c₁.lines.coming f q → q ≡ idle
              go idle h = refl
              go (wants a o r st) h = clash (ap is_quiet h.still) (ap is_quiet e)

          grant_place : (p b : ℕ) (u dd : Bool) (y : List ℕ) → c₁.lines.coming f ≡ grant p (holds b u dd y) → (p / 64 ≡ f) × (c₁.lines.slot p ≡ empty)
          grant_place p b u dd y e = subst (Bound c₁.lines.slot f) e (a₁.sound.agrees.safe.tidy.bound f)

          grant_home : (p b : ℕ) (u dd : Bool) (y : List ℕ) → c₁.lines.coming f ≡ grant p (holds b u dd y) → (p ≡ home f b) ⊎ (p ≡ suc (home f b))
          grant_home p b u dd y e = subst (λ (k : ℕ). (p ≡ home k b) ⊎ (p ≡ suc (home k b))) (grant_place p b u dd y e).0
              (place_held κ laws c₁ (record { sound = a₁.sound; live = a₁.live }) p b (ap (λ (z : Entry). held z b) (a₁.sound.agrees.safe.tidy.mirror p) ∙ there))
            where
              here : (p b : ℕ) (u dd : Bool) (y : List ℕ) (z : Slot) → held (tag (over (grant p (holds b u dd y)) p z)) b ≡ true
              here p b u dd y z = grind arith

              there : held (tag (view c₁.lines p)) b ≡ true
              there = subst (λ (h : Grant). held (tag (over h p (c₁.lines.slot p))) b ≡ true) (sym (ap c₁.lines.coming (grant_place p b u dd y e).0 ∙ e)) (here p b u dd y (c₁.lines.slot p))

          taking : (needed c₂.lines.slot ≡ ready) ⊎ (R c₂.lines.slot (out c₂) ≤ R c₁.lines.slot (out c₁))
          taking = go (c₁.lines.coming f) refl
            where
              go : (h : Grant) → c₁.lines.coming f ≡ h → (needed c₂.lines.slot ≡ ready) ⊎ (R c₂.lines.slot (out c₂) ≤ R c₁.lines.slot (out c₁))
              go quiet e = inr (rw (same_R c₁.lines.slot c₂.lines.slot (out c₂) (λ p i. slot₂ p i ∙ ap (λ (h : Grant). filled h c₁.lines.slot p) e), request_two, now_quiet, e) (omega arith))
              go (grant p empty) e = inr (rw (same_R c₁.lines.slot c₂.lines.slot (out c₂) (λ q i. slot₂ q i ∙ ap (λ (h : Grant). filled h c₁.lines.slot q) e ∙ none q), request_two, now_quiet, e, idle_one p empty e) (omega arith))
                where
                  none : (q : ℕ) → put c₁.lines.slot p empty q ≡ c₁.lines.slot q
                  none q = at_put (λ z. z ≡ c₁.lines.slot q) c₁.lines.slot p empty q (λ i. sym (ap c₁.lines.slot i ∙ (subst (Bound c₁.lines.slot f) e (a₁.sound.agrees.safe.tidy.bound f)).1)) (λ i. refl)
              go (grant p (holds b u dd y)) e = elim (take_nearer f c₁.lines.slot (code κ c.size (c.cpu f)) (κ.touch c.size (c.cpu f)) (plain κ c.size (c.cpu f)) p b u dd y (grant_place p b u dd y e).1 (grant_home p b u dd y e) sole) [
                | inl z ↦ inl (same_needed (put c₁.lines.slot p (holds b u dd y)) c₂.lines.slot slots ∙ z)
                | inr z ↦ inr (rw (same_R (put c₁.lines.slot p (holds b u dd y)) c₂.lines.slot (out c₂) slots, request_two, now_quiet, e, idle_one p (holds b u dd y) e) z)
              ]
                where
                  slots : (q : ℕ) → q / 64 ≡ f → c₂.lines.slot q ≡ put c₁.lines.slot p (holds b u dd y) q
                  slots q i = slot₂ q i ∙ ap (λ (h : Grant). filled h c₁.lines.slot q) e

                  sole : Single (put c₁.lines.slot p (holds b u dd y)) f
                  sole k i j = single κ laws f c₂ taken.0.sound (ap is_quiet now_quiet) k
                      (ap (λ (z : Slot). has z k) (slots (home f k) (home_place f k (home f k) (inl refl)).0) ∙ i) (ap (λ (z : Slot). has z k) (slots (suc (home f k)) (home_place f k (suc (home f k)) (inr refl)).0) ∙ j)

          slot₃ : (p : ℕ) → p / 64 ≡ f → c₃.lines.slot p ≡ c₂.lines.slot p
          slot₃ p e = answered.1.slot p (ap c₂.hints.due e ∙ ap (λ (h : Hints). h.due f) taken.1.hints ∙ due₁)

          out₃ : out c₃ ≡ out c₂
          out₃ = elim (answered.1.serve (ap (λ (x : ℕ → Bool). x f) taken.1.on ∙ on)) [ inl z ↦ rw (z.0, z.1) | inr z ↦ rw (z.4, z.5, z.6) z.7 ]

          told₃ : is_unasked (c₃.hints.probe f) ≡ true
          told₃ = answered.1.fewer f (ap (λ (h : Hints). is_unasked (h.probe f)) taken.1.hints ∙ unasked-first)

          size₃ : c₃.size ≡ c.size
          size₃ = answered.1.size ∙ taken.1.size

          cpu₃ : c₃.cpu ≡ c.cpu
          cpu₃ = answered.1.cpu ∙ taken.1.cpu

          nearing_on : (lacked κ c₃ f ≡ ready) ⊎ (further κ c₃ f ≤ further κ c f)
          nearing_on = elim taking [
            | inl z ↦ inl (rw (size₃, cpu₃) (same_needed c₂.lines.slot c₃.lines.slot slot₃ ∙ z))
            | inr z ↦ inr (rw (told₃, unasked-first, size₃, cpu₃, same_R c₂.lines.slot c₃.lines.slot (out c₃) slot₃, out₃) (let y = opening in omega arith))
          ]

        further_three : (e : State κ) → further κ e f ≤ 3
        further_three e = choose (λ (n : ℕ). n ≤ 3) (is_unasked (e.hints.probe f)) _ _ (λ i. far_three (seek e.lines.slot f (code κ e.size (e.cpu f))) (out_of (e.lines.request f) (e.lines.coming f)) (code κ e.size (e.cpu f)) (operand κ e.size (e.cpu f) (cached e.lines.slot f))) (λ i. omega arith)

        pub nearing : (lacked κ c₃ f ≡ ready) ⊎ (further κ c₃ f ≤ further κ c f)
        nearing = go (is_unasked (c.hints.probe f)) refl
          where
            go : (b : Bool) → is_unasked (c.hints.probe f) ≡ b → (lacked κ c₃ f ≡ ready) ⊎ (further κ c₃ f ≤ further κ c f)
            go true e = nearing_on e
            go false e = inr (rw e (further_three c₃))

        abbrev d : State κ
        d = (start_next κ c₄).0

        abbrev after : ℕ → List (ℕ × ℕ) → Request → ℕ
        after l w q = until_taken l w d.lines.request d.lines.coming d.hints.probe f q

        abbrev before : ℕ → List (ℕ × ℕ) → Request → ℕ
        before l w q = until_taken l w c.lines.request c.lines.coming c.hints.probe f q

        -- a probe to the turn that is still there was behind a line
        asked_still : is_unasked (d.hints.probe f) ≡ false → (is_unasked (c.hints.probe f) ≡ false) × (is_quiet (c.lines.coming f) ≡ false)
        asked_still n = let z = asked_yet f (ap (λ (t : ℕ → Probe). is_unasked (t f)) (sym acts.1.probe) ∙ true_false (is_unasked (c₄.hints.probe f)) (λ u. clash (started.probe u) n)) in (z.0, z.1)

        still_quiet : (a p : ℕ) (o : Bool) (st : Stage) → c.lines.request f ≡ wants a o p st → c.lines.coming f ≡ quiet
        still_quiet a p o st e = (subst (Fair c.size c.lines.entry c.lines.coming f) e (g.safe.tidy.fair f)).still

        unasked_end : (a p : ℕ) (o : Bool) (st : Stage) → c.lines.request f ≡ wants a o p st → is_unasked (d.hints.probe f) ≡ true
        unasked_end a p o st e = go (is_unasked (d.hints.probe f)) refl
          where
            go : (b : Bool) → is_unasked (d.hints.probe f) ≡ b → b ≡ true
            go true n = refl
            go false n = clash (ap is_quiet (still_quiet a p o st e)) (asked_still n).1

        coming_end : d.lines.coming f ≡ c₃.lines.coming f
        coming_end = ap (λ (h : ℕ → Grant). h f) (started.coming ∙ acts.1.coming)

        request₂ : c₂.lines.request f ≡ c₁.lines.request f
        request₂ = ap (λ (r : ℕ → Request). r f) taken.1.request

        coming₂ : c₂.lines.coming f ≡ pick (c₁.hints.due f) quiet (c₁.lines.coming f)
        coming₂ = taken.1.coming f ∙ rw (less_four f f_small)

        -- a request that does not ask, and is not fetched, stays as it was
        passive : (q : Request) → c.lines.request f ≡ q → is_fetching q ≡ false → is_probing q ≡ false → (c₃.lines.request f ≡ q) × (c₃.lines.coming f ≡ pick (c₁.hints.due f) quiet (c.lines.coming f))
        passive q e n h = elim (all_came 4 xs c.lines f) [
          | inr z ↦ clash (ap is_fetching (sym e ∙ z.4)) n
          | inl z ↦ let y = served_same (c₂.lines.request f) (c₂.lines.coming f) (c₃.lines.request f) (c₃.lines.coming f) (ap is_probing (request₂ ∙ z.0 ∙ e) ∙ h) (answered.1.serve (ap (λ (x : ℕ → Bool). x f) taken.1.on ∙ on)) in
              (y.0 ∙ request₂ ∙ z.0 ∙ e, y.1 ∙ coming₂ ∙ ap (λ (x : Grant). pick (c₁.hints.due f) quiet x) z.1)
        ]

        module _ (l : ℕ) (w u : List (ℕ × ℕ)) (waiting : (i a : ℕ) → fetches (c.lines.request i) a ≡ true → waits a w ≡ true) (next-left : (a : ℕ) → given a xs ≡ false → waits a w ≡ true → suc (left a u) ≡ left a w) (late : (a : ℕ) → left a u ≤ l)
            (same₄ : c₄.lines.request f ≡ c₃.lines.request f) (on₄ : c₄.on f ≡ true) where
          abbrev Result : Request → Type 0
          Result q = (after l u (d.lines.request f) + 1 ≤ before l w q) ⊎ ((((is_idle q ≡ true) × (is_quiet (c.lines.coming f) ≡ true)) × (is_unasked (c.hints.probe f) ≡ true)) × (after l u (d.lines.request f) ≤ before l w q))

          -- the request at the end, where it is not one that is queued
          ends : (q : Request) → c₃.lines.request f ≡ q → is_queued q ≡ false → d.lines.request f ≡ q
          ends q e n = started.request (ap is_queued (same₄ ∙ e) ∙ n) ∙ same₄ ∙ e

          timing_idle : c.lines.request f ≡ idle → Result idle
          timing_idle e = let z = passive idle e refl refl in let i : d.lines.request f ≡ idle = ends idle z.0 refl in
              subst (λ (q : Request). (after l u q + 1 ≤ before l w idle) ⊎ ((((is_idle idle ≡ true) × (is_quiet (c.lines.coming f) ≡ true)) × (is_unasked (c.hints.probe f) ≡ true)) × (after l u q ≤ before l w idle))) (sym i)
              (elim (count_idle (is_quiet (c.lines.coming f)) (is_unasked (c.hints.probe f)) (is_quiet (d.lines.coming f)) (is_unasked (d.hints.probe f)) (ap is_quiet (coming_end ∙ z.1) ∙ quiet_after (c.hints.probe f) (c.lines.coming f)) asked_still) [
                | inl y ↦ inl y
                | inr y ↦ inr (((refl, y.0.0), y.0.1), y.1)
              ])

          -- the request is gone at the end, with nothing asked
          gone : (q : Request) (n : ℕ) → 3 ≤ n → d.lines.request f ≡ idle → is_unasked (d.hints.probe f) ≡ true → after l u (d.lines.request f) + 1 ≤ n
          gone q n h i t = subst (λ (x : Request). after l u x + 1 ≤ n) (sym i) (let z = count_two (is_quiet (d.lines.coming f)) (is_unasked (d.hints.probe f)) t in omega arith)

          timing_fetching : (a p : ℕ) (o : Bool) → c.lines.request f ≡ wants a o p fetching → Result (wants a o p fetching)
          timing_fetching a p o e = elim (all_came 4 xs c.lines f) [
            | inl z ↦ inl (not_given (c₂_same (z.0 ∙ e) refl))
            | inr z ↦ inl (gone idle (left a w + 3) (omega arith) (ends idle (c₂_same z.5 refl) refl) (unasked_end a p o fetching e))
          ]
            where
              c₂_same : {q : Request} → c₁.lines.request f ≡ q → is_probing q ≡ false → c₃.lines.request f ≡ q
              c₂_same {q} i n = (served_same (c₂.lines.request f) (c₂.lines.coming f) (c₃.lines.request f) (c₃.lines.coming f) (ap is_probing (request₂ ∙ i) ∙ n) (answered.1.serve (ap (λ (x : ℕ → Bool). x f) taken.1.on ∙ on))).0 ∙ request₂ ∙ i

              not_given : c₃.lines.request f ≡ wants a o p fetching → after l u (d.lines.request f) + 1 ≤ left a w + 3
              not_given i = subst (λ (x : Request). after l u x + 1 ≤ left a w + 3) (sym (ends (wants a o p fetching) i refl))
                  (let y : suc (left a u) ≡ left a w = next-left a (fetch_back f a (ap (λ (x : Request). fetches x a) (same₄ ∙ i) ∙ eqb_self a)).1 (waiting f a (ap (λ (x : Request). fetches x a) e ∙ eqb_self a)) in omega arith)

          asking_end : all_unasked c₄.hints.probe ≡ false → asking d.hints.probe d.lines.coming ≡ 1
          asking_end n = ap (λ (t : ℕ → Probe). asking t d.lines.coming) (started.asking_on n) ∙ ap (λ (h : ℕ → Grant). asking c₄.hints.probe h) started.coming ∙ rw free₄

          asking_start : all_unasked c₄.hints.probe ≡ false → asking c.hints.probe c.lines.coming ≡ 2
          asking_start n = rw (stuck₀ n)

          asking_some : (t : ℕ → Probe) (h : ℕ → Grant) → (1 ≤ asking t h) × (asking t h ≤ 2)
          asking_some t h = choose (λ (n : ℕ). (1 ≤ n) × (n ≤ 2)) (any_stuck t h) 2 1 (λ e. (omega arith, omega arith)) (λ e. (omega arith, omega arith))

          timing_probing : (a p : ℕ) (o : Bool) → c.lines.request f ≡ wants a o p probing → Result (wants a o p probing)
          timing_probing a p o e = elim (all_came 4 xs c.lines f) [
            | inr z ↦ clash (ap is_fetching (sym e ∙ z.4)) refl
            | inl z ↦ elim (answered.1.serve (ap (λ (x : ℕ → Bool). x f) taken.1.on ∙ on)) [
              | inl y ↦ inl (goes_on (y.0 ∙ request₂ ∙ z.0 ∙ e))
              | inr y ↦ inl (gone idle (asking c.hints.probe c.lines.coming + 2) (let x = (asking_some c.hints.probe c.lines.coming).0 in omega arith) (ends idle y.5 refl) (unasked_end a p o probing e))
            ]
          ]
            where
              goes_on : c₃.lines.request f ≡ wants a o p probing → after l u (d.lines.request f) + 1 ≤ asking c.hints.probe c.lines.coming + 2
              goes_on i = subst (λ (x : Request). after l u x + 1 ≤ asking c.hints.probe c.lines.coming + 2) (sym (ends (wants a o p probing) i refl)) (rw (asking_end busy_still, asking_start busy_still) (omega arith))
                where
                  busy_still : all_unasked c₄.hints.probe ≡ false
                  busy_still = true_false (all_unasked c₄.hints.probe) (λ x. clash (ap is_probing (same₄ ∙ i)) (nobody_probes κ laws c₄ acts.0.sound acts.0.live x f))

          timing_queued : (a p : ℕ) (o : Bool) → c.lines.request f ≡ wants a o p queued → Result (wants a o p queued)
          timing_queued a p o e = inl (elim (started.queue a p o (same₄ ∙ (passive (wants a o p queued) e refl refl).0) on₄) [
            | inl z ↦ subst (λ (x : Request). after l u x + 1 ≤ before l w (wants a o p queued)) (sym z) (let y = late a in let n = most in omega arith)
            | inr z ↦ elim z [
              | inl y ↦ subst (λ (x : Request). after l u x + 1 ≤ before l w (wants a o p queued)) (sym y) (let x = (asking_some d.hints.probe d.lines.coming).1 in let n = most in omega arith)
              | inr y ↦ subst (λ (x : Request). after l u x + 1 ≤ before l w (wants a o p queued)) (sym y.0) (elim y.1 [ inl x ↦ fetching_on x.0 x.1 | inr x ↦ probing_on x.0 x.1 ])
            ]
          ])
            where
              most : l + 5 ≤ before l w (wants a o p queued)
              most = choose (λ (n : ℕ). l + 5 ≤ l + 4 + n) (fetched c.lines.request a) (left a w + 2) (asking c.hints.probe c.lines.coming) (λ i. omega arith) (λ i. let x = (asking_some c.hints.probe c.lines.coming).0 in omega arith)

              fetched_before : fetched c₄.lines.request a ≡ true → (fetched c.lines.request a ≡ true) × (suc (left a u) ≡ left a w)
              fetched_before h = let z = fetched_some c₄.lines.request a h in let y = fetch_back z.0 a z.2 in (fetched_any c.lines.request a z.0 z.1 y.0, next-left a y.1 (waiting z.0 a y.0))

              fetching_on : fetched d.lines.request a ≡ true → fetched c₄.lines.request a ≡ true → after l u (wants a o p queued) + 1 ≤ before l w (wants a o p queued)
              fetching_on h i = let z = fetched_before i in let n : suc (left a u) ≡ left a w = z.1 in rw (h, z.0) (omega arith)

              probing_on : fetched d.lines.request a ≡ false → all_unasked c₄.hints.probe ≡ false → after l u (wants a o p queued) + 1 ≤ before l w (wants a o p queued)
              probing_on h i = rw (h, asking_end i) (choose (λ (n : ℕ). l + 4 + 1 + 1 ≤ l + 4 + n) (fetched c.lines.request a) (left a w + 2) (asking c.hints.probe c.lines.coming) (λ j. omega arith) (λ j. rw (asking_start i) (omega arith)))

          timing : (q : Request) → c.lines.request f ≡ q → Result q
          timing idle e = timing_idle e
          timing (wants a o p queued) e = timing_queued a p o e
          timing (wants a o p probing) e = timing_probing a p o e
          timing (wants a o p fetching) e = timing_fetching a p o e

        further_end : further κ d f ≤ further κ c₄ f
        further_end = go (is_unasked (c₄.hints.probe f)) refl
          where
            go : (b : Bool) → is_unasked (c₄.hints.probe f) ≡ b → further κ d f ≤ further κ c₄ f
            go true e = rw (e, started.probe e, started.size, started.cpu, started.slot, started.out) (omega arith)
            go false e = rw e (further_three d)

        -- the key: the turn's core does an instruction, or comes nearer to one
        module _ (l : ℕ) (w u : List (ℕ × ℕ)) (waiting : (i a : ℕ) → fetches (c.lines.request i) a ≡ true → waits a w ≡ true) (next-left : (a : ℕ) → given a xs ≡ false → waits a w ≡ true → suc (left a u) ≡ left a w) (late : (a : ℕ) → left a u ≤ l) where
          few : (q : Request) → after l u q ≤ 2 * l + 6
          few idle = two (is_quiet (d.lines.coming f)) (is_unasked (d.hints.probe f))
            where
              two : (x y : Bool) → 1 + number (not x) + number (not y) ≤ 2 * l + 6
              two true true = omega arith
              two true false = omega arith
              two false true = omega arith
              two false false = omega arith
          few (wants a o p fetching) = let z = late a in omega arith
          few (wants a o p probing) = choose (λ (n : ℕ). n + 2 ≤ 2 * l + 6) (any_stuck d.hints.probe d.lines.coming) 2 1 (λ e. omega arith) (λ e. omega arith)
          few (wants a o p queued) = choose (λ (n : ℕ). l + 4 + n ≤ 2 * l + 6) (fetched d.lines.request a) _ _ (λ e. let z = late a in omega arith)
              (λ e. choose (λ (n : ℕ). l + 4 + n ≤ 2 * l + 6) (any_stuck d.hints.probe d.lines.coming) 2 1 (λ e. omega arith) (λ e. omega arith))

          some : (q : Request) → 1 ≤ before l w q
          some idle = omega arith
          some (wants a o p fetching) = omega arith
          some (wants a o p probing) = omega arith
          some (wants a o p queued) = omega arith

          near₃ : (a : ℕ) (o : Bool) → lacked κ c₃ f ≡ lacks a o → further κ c₃ f ≤ further κ c f
          near₃ a o e = elim nearing [ inl z ↦ not_ready a o (sym e ∙ z) | inr z ↦ z ]

          regs₃ : c₃.cpu f ≡ c.cpu f
          regs₃ = ap (λ (x : ℕ → κ.isa.Cpu). x f) (answered.1.cpu ∙ taken.1.cpu)

          cpu_end : d.cpu f ≡ c₄.cpu f
          cpu_end = ap (λ (x : ℕ → κ.isa.Cpu). x f) started.cpu

          Falls : Type 0
          Falls = remaining κ l u d f + 1 ≤ remaining κ l w c f

          -- it waits
          wait_falls : Waited κ laws f c₃ c₄ → Falls
          unfolding Falls
          wait_falls x = rw (ap κ.isa.lets (cpu_end ∙ x.still.cpu ∙ regs₃)) (fall_wait (2 * l + 6) (wait κ l w c f) (wait κ l u d f) (further κ c f) (further κ d f) _ time near)
            where
              near : further κ d f ≤ further κ c f
              near = let y = further_end in let z = near₃ x.line x.writing x.lacking in let i = further_same κ f c₃ c₄ x.still in omega arith

              waits_not : c.lines.request f ≡ idle → is_unasked (c.hints.probe f) ≡ true → ⊥
              waits_not e t = clash (all_three (c₃.hints.due f) (is_unasked (c₃.hints.probe f)) (is_idle (c₃.lines.request f)) (is_quiet (c₃.lines.coming f)) (due_is f ∙ rw t) (told₃ t)
                  (ap is_idle (passive idle e refl refl).0) (ap is_quiet (passive idle e refl refl).1 ∙ quiet_after (c.hints.probe f) (c.lines.coming f))) x.why
                where
                  all_three : (x y z w : Bool) → x ≡ true → y ≡ true → z ≡ true → w ≡ true → ((x && y) && (z && w)) ≡ true
                  all_three x y z w a b c d = grind arith

              is_idle_says : (q : Request) → is_idle q ≡ true → q ≡ idle
              is_idle_says idle e = refl
              is_idle_says (wants a o p s) e = absurd (false≢true e)

              time : wait κ l u d f + 1 ≤ wait κ l w c f
              time = elim (timing l w u waiting next-left late x.still.request (x.still.on ∙ on₃) (c.lines.request f) refl) [ inl y ↦ y | inr y ↦ absurd (waits_not (is_idle_says (c.lines.request f) y.0.0.0) y.0.1) ]

          broke_falls : Broke κ laws f c₃ c₄ → Falls
          unfolding Falls
          broke_falls x = rw (ap κ.isa.lets (cpu_end ∙ x.entered) ∙ laws.calm (c₃.cpu f), ap κ.isa.lets (sym regs₃) ∙ x.letting)
              (fall_broke (2 * l + 6) (wait κ l w c f) (wait κ l u d f) (further κ c f) (further κ d f) time (further_three d))
            where
              time : wait κ l u d f ≤ wait κ l w c f
              time = elim (timing l w u waiting next-left late x.request x.on (c.lines.request f) refl) [ inl y ↦ weaker _ _ y | inr y ↦ y.1 ]
                where
                  weaker : (a b : ℕ) → a + 1 ≤ b → a ≤ b
                  weaker a b h = omega arith

          send_falls : AskedFor κ laws f c₃ c₄ → Falls
          unfolding Falls
          send_falls x = rw (ap κ.isa.lets (cpu_end ∙ x.cpu ∙ regs₃)) (fall_send (2 * l + 6) (wait κ l w c f) (wait κ l u d f) (further κ c f) (further κ d f) _
              (few (d.lines.request f)) (some (c.lines.request f)) near)
            where
              near : further κ d f + 1 ≤ further κ c f
              near = let y = further_end in let z = near₃ x.line x.writing x.lacking in let i = x.nearer in omega arith

          pub falls : (stepped f r₄.1.did ≡ true) ⊎ (remaining κ l u d f + 1 ≤ remaining κ l w c f)
          unfolding Falls
          falls = elim (acts.1.after on₃ small₃ f_small) [ inl x ↦ inl x | inr y ↦ elim y [ inl x ↦ inr (wait_falls x) | inr z ↦ elim z [ inl x ↦ inr (broke_falls x) | inr x ↦ inr (send_falls x) ] ] ]
