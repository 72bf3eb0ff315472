-- What holds of the parts of the chip, from the invariant: owners, values, places, fetched lines, messages.
use Rattle.std.proofs.Common.{◌≡◌, ℕ, ◌+◌, ◌/◌, ◌<◌, ◌≤◌, Bool, true, false, ◌||◌, ◌⊎◌, List, ◌++◌, length, sym, refl, ap, ◌∙◌, subst, inl, inr, arith, length-append}
use Rattle.cores.specs.Board.{Board, Choice, kept, board_after}
use Rattle.cores.specs.Machines.{Manual, Core, core, steps, events}
use Rattle.cores.specs.Owed.{following, cycled, next_board}
use Rattle.cores.specs.Rv32.{rv32}
use Rattle.cores.proofs.Basics.{with_lines_length}
use Rattle.cores.proofs.Runs.{powered_inv}
use Rattle.cached.specs.Soc.{State, Hints, cycle, chip}
use Rattle.cached.specs.Coherent.{Good, view, Asks, Fair, Bound}
use Rattle.directory.specs.Directory.{Request, wants, Stage, fetches}
use Rattle.link.specs.Messages.{Grant, quiet, is_quiet, over, Probe, ask, is_unasked, all_unasked}
use Rattle.cores.specs.Kept.{Below}
use Rattle.cached.specs.Parts.{Always, Owners, Values, Places, Fetched, comes, with_grants, with_answers, Rows, Turn, AllParts, Inside}
use Rattle.cached.specs.Rank.{number, Asked}
use Rattle.cached.specs.Rv.{rv}
use Rattle.cache.specs.Slots.{Slot, empty, has, owns, dirties}
use Rattle.cached.proofs.Agrees.{slot_words, good_words}
use Rattle.cached.proofs.Base.{clash, less_four}
use Rattle.cached.proofs.Cases.{start_cases}
use Rattle.cached.proofs.Events.{handed_true}
use Rattle.cached.proofs.Facts.{tag_held}
use Rattle.cached.proofs.Falls.{acts, answered, taken, asked_yet}
use Rattle.cached.proofs.Fetching.{fetch, is, few}
use Rattle.cached.proofs.Inside.{below_all, below_right, cycle_in}
use Rattle.cached.proofs.Kept.{Inv, inv_kept, begun}
use Rattle.cached.proofs.Lists.{at_line}
use Rattle.cached.proofs.Outs.{cycle_few}
use Rattle.cached.proofs.Owed.{bounded}
use Rattle.cached.proofs.Range.{stays_in_range}
use Rattle.cached.proofs.Rv.{rv_laws}
use Rattle.cached.proofs.Safe.{tag_has, tag_empty}
use Rattle.cached.proofs.Tidy.{clear_here, clear_view, owns_has}
use Rattle.cached.proofs.Turns.{turn_moves}

abbrev Holds : State rv → Board → Manual rv32 → Type 0
Holds = Inv rv rv_laws

-- what the invariant gives holds after every run
always : (P : State rv → Board → Manual rv32 → Type 0) → ((c : State rv) (b : Board) (μ : Manual rv32) → Holds c b μ → P c b μ) → Always P
always P f n m cs p q r = f _ _ _ (powered_inv rv32 (chip rv) Holds (inv_kept rv rv_laws) n m cs p q r)

dirty_owns : (t : ℕ → List ℕ) (x : Slot) (a : ℕ) → Good t x → dirties x a ≡ true → owns x a ≡ true
dirty_owns t x a g e = grind arith

is_number : (r : Request) (a : ℕ) → is (fetch r) a ≡ number (fetches r a)
is_number r a = grind arith

module _ (c : State rv) (b : Board) (μ : Manual rv32) (h : Holds c b μ) where
  -- nothing is on its way to a place that has something
  seen : (p a : ℕ) → has (c.lines.slot p) a ≡ true → view c.lines p ≡ c.lines.slot p
  seen p a u = clear_view c.lines.slot c.lines.coming p (clear_here c.lines.slot (c.lines.coming (p / 64)) p a u (h.agrees.safe.tidy.bound (p / 64)))

  owners : Owners c b μ
  owners = record {
    single = λ p q a u v. h.agrees.safe.coherent.single p q a (ap (λ (x : Slot). owns x a) (seen p a (owns_has (c.lines.slot p) a u)) ∙ u) (ap (λ (x : Slot). has x a) (seen q a v) ∙ v);
    promised = h.agrees.safe.coherent.single;
    once = h.agrees.safe.coherent.once;
    mirror = h.agrees.safe.tidy.mirror;
  }

  values : Values c b μ
  values = record {
    cached = λ p a u. slot_words rv rv_laws c.hints.turn c b.memory b.said μ h.agrees h.turn p a u;
    coming = λ p a u. good_words rv rv_laws (at_line μ.memory) (view c.lines p) a (h.agrees.safe.coherent.good p) u;
    outside = h.agrees.safe.coherent.stored;
    dirty = λ p a u. dirty_owns (at_line μ.memory) (view c.lines p) a (h.agrees.safe.coherent.good p) u;
  }

  -- a request's place
  asks_at : (k a p : ℕ) (o : Bool) (s : Stage) → c.lines.request k ≡ wants a o p s → Asks c.size c.lines.entry c.lines.coming k a p
  asks_at k a p o s e = subst (Fair c.size c.lines.entry c.lines.coming k) e (h.agrees.safe.tidy.fair k)

  vacant : (k a p : ℕ) → Asks c.size c.lines.entry c.lines.coming k a p → c.lines.slot p ≡ empty
  vacant k a p f = sym (ap (λ (g : Grant). over g p (c.lines.slot p)) (ap c.lines.coming f.mine ∙ f.still)) ∙ tag_empty (view c.lines p) (c.lines.entry p) (h.agrees.safe.tidy.mirror p) f.vacant

  places : Places c b μ
  places = record {
    asked = λ k a p o s e. let f = asks_at k a p o s e in (f.mine, f.home, vacant k a p f, f.still);
    granted = λ k p x e. subst (Bound c.lines.slot k) e (h.agrees.safe.tidy.bound k);
  }

  fetched : Fetched c b μ
  fetched = record {
    nowhere = λ k p a e. tag_has (view c.lines p) (c.lines.entry p) a (h.agrees.safe.tidy.mirror p) (h.agrees.safe.tidy.unheld k a p e);
    alone = h.agrees.safe.tidy.alone;
    waiting = λ a. h.waits.waits a ∙ rw (is_number (c.lines.request 0) a, is_number (c.lines.request 1) a, is_number (c.lines.request 2) a, is_number (c.lines.request 3) a);
  }

  -- a cycle in which the places gs are given
  module _ (gs : List ℕ) where
    grants_taken : (k : ℕ) → k < 4 → is_quiet (c.lines.coming k) ≡ false → (with_grants c b gs).lines.coming k ≡ quiet
    grants_taken k l n = (taken rv rv_laws c b.memory b.said μ h.agrees h.live (comes b gs) (handed_true b.memory gs 0 b.waiting) (λ j. false) k).1.coming k
        ∙ rw (less_four k l, n, or_true (is_unasked (c.hints.probe k)))
      where
        or_true : (x : Bool) → (x || true) ≡ true
        or_true x = grind arith

    still_asked : (k : ℕ) → is_unasked ((with_answers c b gs).hints.probe k) ≡ false →
        (is_unasked (c.hints.probe k) ≡ false) × (is_quiet (c.lines.coming k) ≡ false) × (is_quiet ((with_answers c b gs).lines.coming k) ≡ true)
    still_asked k n = asked_yet rv rv_laws c b.memory b.said μ h.agrees h.live (comes b gs) (handed_true b.memory gs 0 b.waiting) (λ j. false) k k n

    probes_answered : (k : ℕ) → is_quiet (c.lines.coming k) ≡ true → (z : Bool) → is_unasked ((with_answers c b gs).hints.probe k) ≡ z → z ≡ true
    probes_answered k q true e = refl
    probes_answered k q false e = clash q (still_asked k e).1

    one_left : (k : ℕ) (z : Bool) → is_unasked ((with_answers c b gs).hints.probe k) ≡ z → (z ≡ true) ⊎ (is_quiet ((with_answers c b gs).lines.coming k) ≡ true)
    one_left k true e = inl refl
    one_left k false e = inr (still_asked k e).2

    turn_spared : (up : ℕ → Bool) → is_unasked (c.hints.probe c.hints.turn) ≡ true → is_unasked ((cycle rv c (comes b gs) up).0.hints.probe c.hints.turn) ≡ true
    unfolding cycle
    turn_spared up u =
        let f : ℕ = c.hints.turn in
        let t = handed_true b.memory gs 0 b.waiting in
        (begun rv rv_laws c b.memory b.said μ h.agrees h.live (comes b gs) t up).probe
        (ap (λ (p : ℕ → Probe). is_unasked (p f)) (acts rv rv_laws c b.memory b.said μ h.agrees h.live (comes b gs) t up f).1.probe
        ∙ (answered rv rv_laws c b.memory b.said μ h.agrees h.live (comes b gs) t up f).1.fewer f
        (ap (λ (x : Hints). is_unasked (x.probe f)) (taken rv rv_laws c b.memory b.said μ h.agrees h.live (comes b gs) t up f).1.hints ∙ u))

  probe_meant : (k p a : ℕ) (o : Bool) → c.hints.probe k ≡ ask p a o → (p / 64 ≡ k) × (has (view c.lines p) a ≡ true)
  probe_meant k p a o e =
      let z : Asked c.lines.entry (c.lines.request c.hints.lead) k (ask p a o) = subst (Asked c.lines.entry (c.lines.request c.hints.lead) k) e (h.live.asked k) in
      (z.0, tag_held (view c.lines p) (c.lines.entry p) a (h.agrees.safe.tidy.mirror p) z.1)

  rows : Rows c b μ
  rows = record {
    room = λ k a p o s e. (asks_at k a p o s e).still;
    taken = λ k gs l n. grants_taken gs k l n;
    answered = λ k gs n q. probes_answered gs k q (is_unasked ((with_answers c b gs).hints.probe k)) refl;
    order = λ k gs. one_left gs k (is_unasked ((with_answers c b gs).hints.probe k)) refl;
    meant = probe_meant;
  }

  turn_passes : (gs : List ℕ) (up : ℕ → Bool) →
      ((cycle rv c (comes b gs) up).0.hints.turn ≡ c.hints.turn)
      ⊎ (((cycle rv c (comes b gs) up).0.hints.turn ≡ following (length μ.cores) c.hints.turn)
      × (((core rv32 μ c.hints.turn).on ≡ false) ⊎ (1 ≤ steps c.hints.turn (cycle rv c (comes b gs) up).1.did)))
  unfolding cycle
  turn_passes gs up = elim (turn_moves rv rv_laws c b.memory b.said μ h.agrees h.live (comes b gs) (handed_true b.memory gs 0 b.waiting) up h.turn) [
    | inl z ↦ inr (z.0 ∙ ap (λ (n : ℕ). following n c.hints.turn) (sym h.agrees.many), off_machine z.1)
    | inr z ↦ inl z.0
  ]
    where
      off_machine : {A : Type 0} → (c.on c.hints.turn ≡ false) ⊎ A → ((core rv32 μ c.hints.turn).on ≡ false) ⊎ A
      off_machine (inl z) = inl (ap (λ (x : Core rv32). x.on) (h.agrees.cores c.hints.turn h.turn) ∙ z)
      off_machine (inr z) = inr z

  turn : Turn c b μ
  turn = record { there = rw h.agrees.many h.turn; passes = turn_passes; spared = turn_spared }

  -- the lines that wait are memory's
  row_in : Below (length b.memory) b.waiting
  row_in = below_all (length b.memory) b.waiting (λ a l. (bounded rv rv_laws).inside c b μ a h l)

module _ (c : State rv) (b : Board) (μ : Manual rv32) (h : Holds c b μ) (gs : List ℕ) (up : ℕ → Bool) where
  abbrev now : Choice
  now = record { given = gs; raised = up }

  -- and so they are after the next cycle
  next_holds : Holds (cycled (chip rv) c b now).0 (next_board (chip rv) c b now) (events rv32 μ (cycled (chip rv) c b now).1.did)
  next_holds = (inv_kept rv rv_laws).keeps c b μ now h

  next_row : Below (length b.memory) (kept gs 0 b.waiting ++ (cycle rv c (comes b gs) up).1.asks)
  unfolding board_after
  next_row = subst (λ (n : ℕ). Below n (kept gs 0 b.waiting ++ (cycle rv c (comes b gs) up).1.asks)) (with_lines_length b.memory (cycle rv c (comes b gs) up).1.writes) (row_in _ _ _ next_holds)

  next_few : length (kept gs 0 b.waiting) + length (cycle rv c (comes b gs) up).1.asks ≤ 16
  unfolding board_after
  next_few =
      let z : length (kept gs 0 b.waiting ++ (cycle rv c (comes b gs) up).1.asks) ≤ 4 = few _ _ next_holds.waits in
      omega (arith, length-append (kept gs 0 b.waiting) (cycle rv c (comes b gs) up).1.asks)

pub inside : (c : State rv) (b : Board) (μ : Manual rv32) → Holds c b μ → Inside c b μ
inside c b μ h = record {
  waiting = row_in c b μ h;
  asks = λ gs up. below_right (length b.memory) (kept gs 0 b.waiting) _ (next_row c b μ h gs up);
  writes = λ gs up. cycle_in rv rv_laws c b.memory b.said μ (comes b gs) up (handed_true b.memory gs 0 b.waiting) h.agrees;
  room = λ gs up. next_few c b μ h gs up;
}

pub all_parts : AllParts
all_parts = record {
  owners = always Owners owners;
  values = always Values values;
  places = always Places places;
  fetched = always Fetched fetched;
  rows = always Rows rows;
  turn = always Turn turn;
  inside = always Inside inside;
  room = λ c. start_cases rv c (λ d v. (d.hints.probe ≡ c.hints.probe) ⊎ (all_unasked c.hints.probe ≡ true))
      (record { none = λ n. inl refl; fetch = λ k a p o e u f first. inl refl; probe = λ k a p o e u f t g first. inr t });
  little = cycle_few rv;
  range = stays_in_range;
}
