-- What holds between the chip, the board and the machines from one cycle to the next.
use Rattle.std.proofs.Common.{◌≡◌, ℕ, suc, ◌<◌, ◌≤◌, Bool, false, not, ◌||◌, ltb, List, [], ◌++◌, sym, refl, ap, ◌∙◌, subst, arith}
use Rattle.cores.specs.Board.{Choice, Board, handed, kept, board_after}
use Rattle.cores.specs.Machines.{Manual, events}
use Rattle.cores.specs.Owed.{Kept}
use Rattle.cores.specs.Promise.{once}
use Rattle.cores.proofs.Basics.{choose}
use Rattle.cached.specs.Soc.{State, Hints, around, stepped, deliver, act_all, start_next, body, turn_after, cycle, chip}
use Rattle.directory.specs.Directory.{Request, fetches}
use Rattle.cached.specs.Kind.{Kind, Laws}
use Rattle.cached.proofs.Steps.{True}
use Rattle.cached.proofs.CycleAgrees.{cycle_keeps, starts}
use Rattle.cached.proofs.Events.{handed_true}
use Rattle.cached.proofs.Falls.{Started, started, acts, answered, taken}
use Rattle.cached.proofs.Agrees.{Agrees}
use Rattle.cached.proofs.Lists.{at_line}
use Rattle.cached.proofs.Probes.{still_live}
use Rattle.cached.proofs.Outs.{before_acts, body_asks, acts_off}
use Rattle.cached.proofs.Phases.{Lively, starting_kept}
use Rattle.cached.proofs.Fetching.{fetch, Waits, fetch_same, waits_same, deliver_waits, start_waits}

around_less : (n t : ℕ) → 1 ≤ n → around n t < n
around_less n t h = grind arith

module _ (κ : Kind) (laws : Laws κ) where
  pub record Inv (c : State κ) (b : Board) (μ : Manual κ.isa) : Type 0 where
    -- lines, registers, words said and memory agree with the machines
    pub agrees : Agrees κ laws c b.memory b.said μ
    -- probes are for the one request that probes
    pub live : Lively κ laws c
    -- it is the turn of a core that is there
    pub turn : c.hints.turn < c.count
    -- cores that are not there are off
    pub beyond : (k : ℕ) → c.count ≤ k → c.on k ≡ false
    -- the lines that wait are those of the requests that fetch
    pub waits : Waits (λ k. fetch (c.lines.request k)) b.waiting

  -- a cycle in which the lines xs come
  module _ (c : State κ) (m : List (List ℕ)) (s : List (ℕ × ℕ)) (μ : Manual κ.isa) (g : Agrees κ laws c m s μ) (v : Lively κ laws c)
      (xs : List (ℕ × List ℕ)) (true-lines : True (at_line m) xs) (up : ℕ → Bool) where
    abbrev f : ℕ
    f = c.hints.turn

    abbrev c₁ : State κ
    c₁ = (deliver κ xs c).0

    abbrev c₃ : State κ
    c₃ = before_acts κ xs c

    abbrev c₄ : State κ
    c₄ = (act_all κ up c₃).0

    abbrev d : State κ
    d = (body κ xs up c).0

    pub begun : Started κ laws f c₄ d (start_next κ c₄).1.asks
    begun = started κ laws c m s μ g v xs true-lines up f refl

    pub live_end : Lively κ laws d
    live_end = (starting_kept κ laws c₄ (acts κ laws c m s μ g v xs true-lines up f).0).live

    pub count_end : d.count ≡ c.count
    count_end = begun.count ∙ (acts κ laws c m s μ g v xs true-lines up f).1.count
        ∙ (answered κ laws c m s μ g v xs true-lines up f).1.count ∙ (taken κ laws c m s μ g v xs true-lines up f).1.count

    pub turn_end : d.hints.turn ≡ f
    turn_end = begun.turn ∙ (acts κ laws c m s μ g v xs true-lines up f).1.turn
        ∙ (answered κ laws c m s μ g v xs true-lines up f).1.turn ∙ ap (λ (x : Hints). x.turn) (taken κ laws c m s μ g v xs true-lines up f).1.hints

    -- up to where cores act nobody stops
    pub on_before : c₃.on ≡ c.on
    on_before = (answered κ laws c m s μ g v xs true-lines up f).1.on ∙ (taken κ laws c m s μ g v xs true-lines up f).1.on

    pub off_stays : (k : ℕ) → c.on k ≡ false → d.on k ≡ false
    off_stays k e = ap (λ (x : ℕ → Bool). x k) begun.on ∙ acts_off κ up k 4 c₃ (ap (λ (x : ℕ → Bool). x k) on_before ∙ e)

    pub turn_less : f < c.count → turn_after κ (body κ xs up c).1.did d < d.count
    turn_less l = subst (λ (n : ℕ). turn_after κ (body κ xs up c).1.did d < n) (sym count_end) (choose (λ (x : ℕ). x < c.count) (stepped d.hints.turn (body κ xs up c).1.did || not (d.on d.hints.turn)) _ _
        (λ e. rw count_end (around_less c.count (suc d.hints.turn) (omega arith))) (λ e. rw turn_end l))

    -- what is fetched changes only where lines come and where a request is started
    fetch_end : (i : ℕ) → fetch (c₄.lines.request i) ≡ fetch (c₁.lines.request i)
    fetch_end i = fetch_same (c₁.lines.request i) (c₄.lines.request i) (λ a.
        (acts κ laws c m s μ g v xs true-lines up f).1.fetch i a ∙ (answered κ laws c m s μ g v xs true-lines up f).1.fetch i a
        ∙ ap (λ (r : ℕ → Request). fetches (r i) a) (taken κ laws c m s μ g v xs true-lines up f).1.request)

    pub waits_end : (w : List ℕ) → Waits (λ k. fetch (c₁.lines.request k)) w → Waits (λ k. fetch (d.lines.request k)) (w ++ (body κ xs up c).1.asks)
    waits_end w h = rw (body_asks κ xs up c)
        (start_waits κ c₄ w (acts κ laws c m s μ g v xs true-lines up f).0.sound.agrees.safe.tidy
        (waits_same (λ k. fetch (c₁.lines.request k)) (λ k. fetch (c₄.lines.request k)) w (λ k l. fetch_end k) h))

  keeps : (c : State κ) (b : Board) (μ : Manual κ.isa) (x : Choice) → Inv c b μ →
      Inv (cycle κ c (handed b.memory x.given 0 b.waiting) x.raised).0
      (board_after b x (cycle κ c (handed b.memory x.given 0 b.waiting) x.raised).1)
      (events κ.isa μ (cycle κ c (handed b.memory x.given 0 b.waiting) x.raised).1.did)
  unfolding cycle board_after
  keeps c b μ x h =
      let xs : List (ℕ × List ℕ) = handed b.memory x.given 0 b.waiting in
      let t : True (at_line b.memory) xs = handed_true b.memory x.given 0 b.waiting in
      record {
        agrees = cycle_keeps κ laws c b.memory b.said μ xs x.raised t h.agrees;
        live = live_end c b.memory b.said μ h.agrees h.live xs t x.raised;
        turn = turn_less c b.memory b.said μ h.agrees h.live xs t x.raised h.turn;
        beyond = λ k l. off_stays c b.memory b.said μ h.agrees h.live xs t x.raised k
            (h.beyond k (rw (count_end c b.memory b.said μ h.agrees h.live xs t x.raised) at l));
        waits = waits_end c b.memory b.said μ h.agrees h.live xs t x.raised (kept x.given 0 b.waiting)
            (deliver_waits c.size b.memory (at_line μ.memory) x.given 0 [] b.waiting c.lines h.agrees.safe h.waits);
      }

  pub inv_kept : Kept κ.isa (chip κ) Inv
  unfolding once
  inv_kept = record {
    starts = λ n m p q r. record {
      agrees = starts κ laws n m q r;
      live = still_live _ _ _ _ (λ k. refl) (λ i. refl);
      turn = p;
      beyond = λ k l. past n k l;
      waits = record { waits = λ a. refl; long = refl };
    };
    keeps = keeps;
  }
    where
      past : (n k : ℕ) → n ≤ k → ltb k n ≡ false
      past n k l = grind arith
