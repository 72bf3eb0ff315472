-- What a cycle puts out: only the start of a request asks for a line, and only where cores act something is done, by each core one event at most.
use Rattle.std.proofs.Common.{◌≡◌, ℕ, zero, suc, ◌+◌, ◌<◌, ◌≤◌, Bool, true, false, not, ◌&&◌, eqb, ◌≢◌, List, [], ◌∷◌, ◌++◌, length, sym, refl, ap, ◌∙◌, subst, arith, length-append}
use Rattle.rv32.specs.Did.{Did, goes, stores, stops, says}
use Rattle.cores.specs.Board.{Out}
use Rattle.cores.specs.Loop.{Step, then, each, silent}
use Rattle.cores.specs.Machines.{Event, step, interrupt, steps, interrupts, pick}
use Rattle.cores.specs.Put.{put}
use Rattle.cores.proofs.Basics.{choose, same, differ, append_nil}
use Rattle.cores.proofs.Machines.{steps_append, interrupts_append}
use Rattle.cores.specs.Ports.{spoken}
use Rattle.cached.specs.Soc.{State, requeue, hand_on, share_on, deliver, take_due, drop_probe, lets_go, requeue_lead, answer, answer_probe, act, can_start, next_start, start_request, start_at, start_next, take_all, answer_all, act_all, body, cycle, moves, release, downgrade, way_for}
use Rattle.directory.specs.Directory.{nobody, Request, idle, wants, queued, probing, fetching, free}
use Rattle.cached.specs.Kind.{Kind}
use Rattle.cached.specs.Lines.{Lines, grants}
use Rattle.link.specs.Messages.{Probe, unasked, ask, all_unasked}
use Rattle.cached.specs.Parts.{FewOut}
use Rattle.cached.specs.Rank.{number}
use Rattle.cache.specs.Slots.{has, Slot, empty, holds, words, back, chosen, find}
use Rattle.cached.proofs.Base.{at_put, clash}
use Rattle.cached.proofs.Cases.{act_cases}

module _ (κ : Kind) where
  -- a step from c asks for no line, does nothing of the manual's, says nothing, writes n lines at most, and leaves it settled which message each core takes
  pub record Mute (n : ℕ) (c : State κ) (r : State κ × Out) : Type 0 where
    pub asks : r.1.asks ≡ []
    pub did : r.1.did ≡ []
    pub says : r.1.says ≡ []
    pub writes : length r.1.writes ≤ n
    pub due : r.0.hints.due ≡ c.hints.due

  then_mute : (n m : ℕ) (f g : Step (State κ)) (c : State κ) → Mute n c (f c) → Mute m (f c).0 (g (f c).0) → Mute (n + m) c (then f g c)
  then_mute n m f g c a b = record {
    asks = rw a.asks b.asks;
    did = rw a.did b.did;
    says = rw a.says b.says;
    writes = let x = a.writes in let y = b.writes in let z = length-append (f c).1.writes (g (f c).0).1.writes in omega arith;
    due = b.due ∙ a.due;
  }

  stay_mute : (c : State κ) → Mute 0 c (c, silent)
  stay_mute c = record { asks = refl; did = refl; says = refl; writes = omega arith; due = refl }

  -- a change of lines with what is written
  move_mute : (n : ℕ) (l : Lines) (ws : List (ℕ × List ℕ)) (c : State κ) → length ws ≤ n → Mute n c (moves κ l ws c)
  move_mute n l ws c h = record { asks = refl; did = refl; says = refl; writes = h; due = refl }

  more_mute : (c : State κ) (r : State κ × Out) → Mute 0 c r → Mute 1 c r
  more_mute c r a = record { asks = a.asks; did = a.did; says = a.says; writes = let x = a.writes in omega arith; due = a.due }

  back_one : (x : Slot) → length (back x) ≤ 1
  back_one empty = omega arith
  back_one (holds a o true w) = omega arith
  back_one (holds a o false w) = omega arith

  take_mute : (k : ℕ) (c : State κ) → Mute 0 c (take_due κ k c)
  take_mute k c = choose (Mute 0 c) (c.hints.due k) _ _ (λ u. move_mute 0 _ [] c (omega arith)) (λ u. stay_mute c)

  requeue_mute : (j : ℕ) (r : Request) (c : State κ) → Mute 0 c (requeue κ j r c)
  requeue_mute j idle c = stay_mute c
  requeue_mute j (wants a o p queued) c = stay_mute c
  requeue_mute j (wants a o p fetching) c = stay_mute c
  requeue_mute j (wants a o p probing) c = move_mute 0 _ [] c (omega arith)

  unprobed_mute : (c : State κ) → Mute 0 c (requeue_lead κ c)
  unprobed_mute c = choose (Mute 0 c) (all_unasked c.hints.probe) _ _ (λ u. requeue_mute c.hints.lead (c.lines.request c.hints.lead) c) (λ u. stay_mute c)

  release_mute : (q : ℕ) (c : State κ) → Mute 1 c (release κ q c)
  release_mute q c = move_mute 1 _ (back (c.lines.slot q)) c (back_one (c.lines.slot q))

  weaken_mute : (q : ℕ) (c : State κ) → Mute 1 c (downgrade κ q c)
  weaken_mute q c = move_mute 1 _ (back (c.lines.slot q)) c (back_one (c.lines.slot q))

  hand_mute : (q a j : ℕ) (r : Request) (c : State κ) → Mute 1 c (hand_on κ q a j r c)
  hand_mute q a j idle c = release_mute q c
  hand_mute q a j (wants b o p queued) c = release_mute q c
  hand_mute q a j (wants b o p fetching) c = release_mute q c
  hand_mute q a j (wants b o p probing) c = choose (Mute 1 c) (eqb b a && free (put c.lines.entry q nobody) a 4) _ _ (λ u. move_mute 1 _ [] c (omega arith))
      (λ u. then_mute 1 0 (release κ q) (requeue κ j (wants b o p probing)) c (release_mute q c) (requeue_mute j (wants b o p probing) (release κ q c).0))

  share_mute : (q a j : ℕ) (r : Request) (c : State κ) → Mute 1 c (share_on κ q a j r c)
  share_mute q a j idle c = weaken_mute q c
  share_mute q a j (wants b o p queued) c = weaken_mute q c
  share_mute q a j (wants b o p fetching) c = weaken_mute q c
  share_mute q a j (wants b o p probing) c = choose (Mute 1 c) (eqb b a && not o) _ _
      (λ u. then_mute 1 0 (downgrade κ q) (λ d. moves κ (grants j p (holds a false false (words (c.lines.slot q))) d.lines) [] d) c (weaken_mute q c) (move_mute 0 _ [] (downgrade κ q c).0 (omega arith)))
      (λ u. then_mute 1 0 (downgrade κ q) (requeue κ j (wants b o p probing)) c (weaken_mute q c) (requeue_mute j (wants b o p probing) (downgrade κ q c).0))

  go_mute : (p a : ℕ) (o : Bool) (c : State κ) → Mute 1 c (lets_go κ p a o c)
  go_mute p a true c = choose (Mute 1 c) (all_unasked c.hints.probe && c.on c.hints.lead) _ _ (λ u. hand_mute p a c.hints.lead (c.lines.request c.hints.lead) c) (λ u. release_mute p c)
  go_mute p a false c = choose (Mute 1 c) (all_unasked c.hints.probe) _ _ (λ u. share_mute p a c.hints.lead (c.lines.request c.hints.lead) c) (λ u. weaken_mute p c)

  hear_mute : (k : ℕ) (c : State κ) → Mute 0 c (drop_probe κ k c)
  hear_mute k c = record { asks = refl; did = refl; says = refl; writes = omega arith; due = refl }

  answer_mute : (k : ℕ) (t : Probe) (c : State κ) → Mute 1 c (answer κ k t c)
  answer_mute k unasked c = more_mute c (c, silent) (stay_mute c)
  answer_mute k (ask p a o) c =
      let d : State κ = (drop_probe κ k c).0 in
      choose (Mute 1 c) (has (c.lines.slot p) a) _ _
      (λ u. then_mute 0 1 (drop_probe κ k) (then (lets_go κ p a o) (requeue_lead κ)) c (hear_mute k c) (then_mute 1 0 (lets_go κ p a o) (requeue_lead κ) d (go_mute p a o d) (unprobed_mute (lets_go κ p a o d).0)))
      (λ u. more_mute c _ (then_mute 0 0 (drop_probe κ k) (requeue_lead κ) c (hear_mute k c) (unprobed_mute d)))

  -- a core whose grant is due answers nothing
  answers_mute : (k : ℕ) (c : State κ) → Mute (number (not (c.hints.due k))) c (answer_probe κ k c)
  answers_mute k c = go (c.hints.due k)
    where
      go : (b : Bool) → Mute (number (not b)) c (pick b (c, silent) (answer κ k (c.hints.probe k) c))
      go true = stay_mute c
      go false = answer_mute k (c.hints.probe k) c

  -- how many of the first n cores answer, and how many may send
  unfoldable pub answering : (ℕ → Bool) → ℕ → ℕ
  answering due zero = 0
  answering due (suc n) = answering due n + number (not (due n))

  unfoldable pub sending : (ℕ → Bool) → ℕ → ℕ
  sending due zero = 0
  sending due (suc n) = sending due n + number (due n)

  takes_mute : (n : ℕ) (c : State κ) → Mute 0 c (each (take_due κ) n c)
  unfolding each
  takes_mute zero c = stay_mute c
  takes_mute (suc n) c = then_mute 0 0 (each (take_due κ) n) (take_due κ n) c (takes_mute n c) (take_mute n (each (take_due κ) n c).0)

  all_answer_mute : (n : ℕ) (c : State κ) → Mute (answering c.hints.due n) c (each (answer_probe κ) n c)
  unfolding each answering
  all_answer_mute zero c = stay_mute c
  all_answer_mute (suc n) c =
      let d : State κ = (each (answer_probe κ) n c).0 in
      let h : Mute (answering c.hints.due n) c (each (answer_probe κ) n c) = all_answer_mute n c in
      then_mute (answering c.hints.due n) (number (not (c.hints.due n))) (each (answer_probe κ) n) (answer_probe κ n) c h
      (subst (λ (x : ℕ → Bool). Mute (number (not (x n))) d (answer_probe κ n d)) h.due (answers_mute n d))

  pub takings_mute : (c : State κ) → Mute 0 c (take_all κ c)
  takings_mute c = takes_mute 4 c

  pub answerings_mute : (c : State κ) → Mute (answering c.hints.due 4) c (answer_all κ c)
  answerings_mute c = all_answer_mute 4 c

  -- the start of a request does nothing of the manual's
  abbrev Idle : State κ × Out → Type 0
  Idle r = r.1.did ≡ []

  started_idle : (k : ℕ) (r : Request) (c : State κ) → Idle (start_request κ k r c)
  started_idle k idle c = refl
  started_idle k (wants a o p probing) c = refl
  started_idle k (wants a o p fetching) c = refl
  started_idle k (wants a o p queued) c = choose Idle (free c.lines.entry a 4) _ _ (λ v. refl) (λ v. refl)

  start_idle : (k : ℕ) (c : State κ) → Idle (start_at κ k c)
  start_idle k c = choose Idle (can_start κ c k) _ _ (λ u. started_idle k (c.lines.request k) c) (λ u. refl)

  -- core k acts: it asks for no line, does one event at most, says one word at most, and writes one line at most, if it may send
  record Acts (k : ℕ) (c : State κ) (r : State κ × Out) : Type 0 where
    pub asks : r.1.asks ≡ []
    pub did : length r.1.did ≤ 1
    pub says : length r.1.says ≤ 1
    pub writes : length r.1.writes ≤ number (c.hints.due k)
    pub due : r.0.hints.due ≡ c.hints.due

  spoken_one : (k : ℕ) (d : Did κ.isa.Cpu) → length (spoken k d) ≤ 1
  spoken_one k (goes x) = omega arith
  spoken_one k (stores y v x) = omega arith
  spoken_one k (says v x) = omega arith
  spoken_one k stops = omega arith

  may_write : (x y : Bool) (n : ℕ) → n ≤ 1 → (x && y) ≡ true → n ≤ number x
  may_write true y n h e = h
  may_write false y n h e = clash e refl

  act_acts : (up : ℕ → Bool) (k : ℕ) (c : State κ) → Acts k c (act κ up k c)
  act_acts up k c = act_cases κ up k c (Acts k c) (record {
    none = λ h. record { asks = refl; did = omega arith; says = omega arith; writes = omega arith; due = refl };
    interrupts = λ l o w h. record { asks = refl; did = omega arith; says = omega arith; writes = omega arith; due = refl };
    does = λ o h. record { asks = refl; did = omega arith; says = spoken_one k _; writes = omega arith; due = refl };
    sends = λ a o h n s i q. record { asks = refl; did = omega arith; says = omega arith; writes = may_write (c.hints.due k) _ _ (back_one (c.lines.slot (chosen (find c.lines.slot k a) k a (way_for κ c k a)))) s; due = refl };
    sweeping = λ q x o h e. record { asks = refl; did = omega arith; says = omega arith; writes = may_write (c.hints.due k) _ _ (one_back (c.lines.slot q)) h; due = refl };
    swept = λ x o h. record { asks = refl; did = omega arith; says = omega arith; writes = omega arith; due = refl };
  })
    where
      one_back : (x : Slot) → length (back x ++ []) ≤ 1
      one_back x = rw (append_nil (back x)) (back_one x)

  -- the first n cores have acted
  record AllAct (n : ℕ) (c : State κ) (r : State κ × Out) : Type 0 where
    pub asks : r.1.asks ≡ []
    pub did : length r.1.did ≤ n
    pub says : length r.1.says ≤ n
    pub writes : length r.1.writes ≤ sending c.hints.due n
    pub due : r.0.hints.due ≡ c.hints.due

  acts_act : (up : ℕ → Bool) (n : ℕ) (c : State κ) → AllAct n c (each (act κ up) n c)
  unfolding each sending
  acts_act up zero c = record { asks = refl; did = omega arith; says = omega arith; writes = omega arith; due = refl }
  acts_act up (suc n) c =
      let r = each (act κ up) n c in
      let t = act κ up n r.0 in
      let h : AllAct n c r = acts_act up n c in
      let a : Acts n r.0 t = act_acts up n r.0 in
      record {
        asks = rw (h.asks, a.asks);
        did = let x = h.did in let y = a.did in let z = length-append r.1.did t.1.did in omega arith;
        says = let x = h.says in let y = a.says in let z = length-append r.1.says t.1.says in omega arith;
        writes = let x = h.writes in let y : length t.1.writes ≤ number (c.hints.due n) = subst (λ (f : ℕ → Bool). length t.1.writes ≤ number (f n)) h.due a.writes in
            let z = length-append r.1.writes t.1.writes in omega arith;
        due = a.due ∙ h.due;
      }

  -- the chip where cores begin to act
  abbrev pub before_acts : List (ℕ × List ℕ) → State κ → State κ
  before_acts xs c = (answer_all κ (take_all κ (deliver κ xs c).0).0).0

  -- what a cycle did is what its cores did
  pub body_did : (xs : List (ℕ × List ℕ)) (up : ℕ → Bool) (c : State κ) → (body κ xs up c).1.did ≡ (act_all κ up (before_acts xs c)).1.did
  body_did xs up c =
      let d = before_acts xs c in
      rw ((takings_mute (deliver κ xs c).0).did, (answerings_mute (take_all κ (deliver κ xs c).0).0).did, start_idle (next_start κ (act_all κ up d).0) (act_all κ up d).0)
      (append_nil (act_all κ up d).1.did)

  -- and what it asked for was asked where a request was started
  pub body_asks : (xs : List (ℕ × List ℕ)) (up : ℕ → Bool) (c : State κ) → (body κ xs up c).1.asks ≡ (start_next κ (act_all κ up (before_acts xs c)).0).1.asks
  body_asks xs up c =
      rw ((takings_mute (deliver κ xs c).0).asks, (answerings_mute (take_all κ (deliver κ xs c).0).0).asks, (acts_act up 4 (before_acts xs c)).asks)

  -- a core that is off stays so
  put_off : (h : ℕ → Bool) (k : ℕ) (b : Bool) (i : ℕ) → h k ≡ true → h i ≡ false → put h k b i ≡ false
  put_off h k b i o n = at_put (λ z. z ≡ false) h k b i (λ e. clash o (subst (λ (x : ℕ). h x ≡ false) e n)) (λ e. n)

  act_off : (up : ℕ → Bool) (k i : ℕ) (c : State κ) → c.on i ≡ false → (act κ up k c).0.on i ≡ false
  act_off up k i c n = act_cases κ up k c (λ r. r.0.on i ≡ false)
      (record { none = λ h. n; interrupts = λ l o w h. put_off c.on k true i o n; does = λ o h. put_off c.on k _ i o n; sends = λ a o h m s j q. n; sweeping = λ q x o h e. n; swept = λ x o h. n })

  pub acts_off : (up : ℕ → Bool) (i n : ℕ) (c : State κ) → c.on i ≡ false → (each (act κ up) n c).0.on i ≡ false
  unfolding each
  acts_off up i zero c h = h
  acts_off up i (suc n) c h = act_off up n i (each (act κ up) n c).0 (acts_off up i n c h)

  -- what core k may do in a cycle
  pub data Emits (k : ℕ) (up : Bool) (c : State κ) : List Event → Type 0 where
    quietly : Emits k up c []
    did : Emits k up c (step k ∷ [])
    took : up ≡ true → κ.isa.lets (c.cpu k) ≡ true → c.on k ≡ true → k < c.count → Emits k up c (interrupt k ∷ [])

  pub act_emits : (up : ℕ → Bool) (k : ℕ) (c : State κ) → Emits k (up k) c (act κ up k c).1.did
  act_emits up k c = act_cases κ up k c (λ r. Emits k (up k) c r.1.did)
      (record { none = λ h. quietly; interrupts = λ l o w h. took w h o l; does = λ o h. did; sends = λ a o h n s i q. quietly; sweeping = λ q x o h e. quietly; swept = λ x o h. quietly })

  emits_steps : (k : ℕ) (u : Bool) (c : State κ) (j : ℕ) (es : List Event) → Emits k u c es → (steps j es ≤ 1) × (j ≢ k → steps j es ≡ 0)
  unfolding steps
  emits_steps k u c j _ quietly = (omega arith, λ d. refl)
  emits_steps k u c j _ did = (grind arith, λ d. grind arith)
  emits_steps k u c j _ (took x y z l) = (omega arith, λ d. refl)

  sum_once : (x y j n : ℕ) → (x ≤ 1) × (n ≤ j → x ≡ 0) → (y ≤ 1) × (j ≢ n → y ≡ 0) → (x + y ≤ 1) × (suc n ≤ j → x + y ≡ 0)
  sum_once x y j n p q = split (eqb j n) refl
    where
      split : (z : Bool) → eqb j n ≡ z → (x + y ≤ 1) × (suc n ≤ j → x + y ≡ 0)
      split true e = let i : j ≡ n = same j n e in (omega (arith, p.1), λ l. omega arith)
      split false e = let i : j ≢ n = differ j n e in (omega (arith, q.1 i), λ l. omega (arith, p.1, q.1 i))

  each_steps : (up : ℕ → Bool) (j n : ℕ) (c : State κ) → (steps j (each (act κ up) n c).1.did ≤ 1) × (n ≤ j → steps j (each (act κ up) n c).1.did ≡ 0)
  unfolding each steps
  each_steps up j zero c = (omega arith, λ l. refl)
  each_steps up j (suc n) c = let d : State κ = (each (act κ up) n c).0 in
      rw (steps_append j (each (act κ up) n c).1.did (act κ up n d).1.did)
      (sum_once (steps j (each (act κ up) n c).1.did) (steps j (act κ up n d).1.did) j n (each_steps up j n c) (emits_steps n (up n) d j (act κ up n d).1.did (act_emits up n d)))

  -- a core does one instruction at most in a cycle
  pub cycle_steps : (c : State κ) (xs : List (ℕ × List ℕ)) (up : ℕ → Bool) (j : ℕ) → steps j (cycle κ c xs up).1.did ≤ 1
  unfolding cycle
  cycle_steps c xs up j = rw (body_did xs up c) (each_steps up j 4 (before_acts xs c)).0

  emits_interrupts : (k : ℕ) (u : Bool) (c : State κ) (j : ℕ) (es : List Event) → Emits k u c es → (j ≡ k → u ≡ false) → interrupts j es ≡ 0
  unfolding interrupts
  emits_interrupts k u c j _ quietly h = refl
  emits_interrupts k u c j _ did h = refl
  emits_interrupts k u c j _ (took x y z l) h = choose (λ (n : ℕ). n ≡ 0) (eqb k j) 1 0 (λ e. clash x (h (sym (same k j e)))) (λ e. refl)

  each_interrupts : (up : ℕ → Bool) (j n : ℕ) (c : State κ) → up j ≡ false → interrupts j (each (act κ up) n c).1.did ≡ 0
  unfolding each interrupts
  each_interrupts up j zero c h = refl
  each_interrupts up j (suc n) c h = let d : State κ = (each (act κ up) n c).0 in
      rw (
        interrupts_append j (each (act κ up) n c).1.did (act κ up n d).1.did,
        each_interrupts up j n c h,
        emits_interrupts n (up n) d j (act κ up n d).1.did (act_emits up n d) (λ e. ap up (sym e) ∙ h),
      )

  -- a core whose line is down takes no interrupt
  pub cycle_interrupts : (c : State κ) (xs : List (ℕ × List ℕ)) (up : ℕ → Bool) (j : ℕ) → up j ≡ false → interrupts j (cycle κ c xs up).1.did ≡ 0
  unfolding cycle
  cycle_interrupts c xs up j h = rw (body_did xs up c) (each_interrupts up j 4 (before_acts xs c) h)

  -- each of four cores answers or may send
  each_one : (due : ℕ → Bool) (n : ℕ) → answering due n + sending due n ≡ n
  unfolding answering sending
  each_one due zero = refl
  each_one due (suc n) = let ih = each_one due n in let z = one_of (due n) in omega arith
    where
      one_of : (b : Bool) → number (not b) + number b ≡ 1
      one_of true = refl
      one_of false = refl

  -- the start of a request asks for one line at most, and writes and says nothing
  abbrev OneAsk : State κ × Out → Type 0
  OneAsk r = (length r.1.asks ≤ 1) × (r.1.writes ≡ []) × (r.1.says ≡ [])

  started_few : (k : ℕ) (r : Request) (c : State κ) → OneAsk (start_request κ k r c)
  started_few k idle c = (omega arith, refl, refl)
  started_few k (wants a o p probing) c = (omega arith, refl, refl)
  started_few k (wants a o p fetching) c = (omega arith, refl, refl)
  started_few k (wants a o p queued) c = choose OneAsk (free c.lines.entry a 4) _ _ (λ v. (omega arith, refl, refl)) (λ v. (omega arith, refl, refl))

  start_few : (k : ℕ) (c : State κ) → OneAsk (start_at κ k c)
  start_few k c = choose OneAsk (can_start κ c k) _ _ (λ u. started_few k (c.lines.request k) c) (λ u. (omega arith, refl, refl))

  -- so a cycle puts out little
  pub cycle_few : (c : State κ) (xs : List (ℕ × List ℕ)) (up : ℕ → Bool) → FewOut (cycle κ c xs up).1
  unfolding cycle
  cycle_few c xs up =
      let c₁ : State κ = (deliver κ xs c).0 in
      let c₂ : State κ = (take_all κ c₁).0 in
      let c₃ : State κ = (answer_all κ c₂).0 in
      let r₄ = act_all κ up c₃ in
      let a : Mute 0 c₁ (take_all κ c₁) = takings_mute c₁ in
      let b : Mute (answering c₂.hints.due 4) c₂ (answer_all κ c₂) = answerings_mute c₂ in
      let d : AllAct 4 c₃ r₄ = acts_act up 4 c₃ in
      let e : OneAsk (start_next κ r₄.0) = start_few (next_start κ r₄.0) r₄.0 in
      record {
        asks = rw (body_asks xs up c) e.0;
        did = rw (body_did xs up c) d.did;
        says = rw (a.says, b.says, e.2, append_nil r₄.1.says) d.says;
        writes = rw (e.1, append_nil r₄.1.writes)
            (let x = a.writes in let y = b.writes in
            let z : length r₄.1.writes ≤ sending c₂.hints.due 4 = subst (λ (f : ℕ → Bool). length r₄.1.writes ≤ sending f 4) b.due d.writes in
            let t = each_one c₂.hints.due 4 in
            let l = length-append (take_all κ c₁).1.writes ((answer_all κ c₂).1.writes ++ r₄.1.writes) in
            let m = length-append (answer_all κ c₂).1.writes r₄.1.writes in omega arith);
      }
