-- Once all cores have stopped, what is left to write falls in each cycle; and when nothing is left memory outside is the machines'.
use Rattle.std.proofs.Common.{◌≡◌, ℕ, zero, suc, ◌+◌, ◌-◌, ◌*◌, ◌/◌, ◌%◌, ◌<◌, ◌≤◌, Bool, true, false, not, ◌&&◌, ◌||◌, eqb, ltb, ◌≢◌, List, [], sym, refl, ap, ◌∙◌, subst, arith, ext_get_or}
use Rattle.cores.specs.Board.{Board, handed}
use Rattle.cores.specs.Machines.{pick, Core, Manual, core}
use Rattle.cores.specs.Owed.{Drains}
use Rattle.cores.proofs.Basics.{by_test, choose, less, not_less, same, differ}
use Rattle.cached.specs.Soc.{State, act_all, cycle, chip}
use Rattle.cached.specs.Coherent.{view, Shape}
use Rattle.directory.specs.Directory.{Entry, tag}
use Rattle.cached.specs.Kind.{Kind, Laws}
use Rattle.link.specs.Messages.{Grant, quiet, is_quiet, over, Probe, is_unasked, all_unasked}
use Rattle.cached.specs.Rank.{any_stuck}
use Rattle.cache.specs.Slots.{Slot, empty, holds, dirties}
use Rattle.cached.proofs.Steps.{True}
use Rattle.cached.proofs.Base.{clash, not_false, unnot}
use Rattle.cached.proofs.Events.{handed_true}
use Rattle.cached.proofs.Facts.{quiet_is, small_unasked, stuck_free}
use Rattle.cached.proofs.Agrees.{Agrees}
use Rattle.cached.proofs.Kept.{Inv}
use Rattle.cached.proofs.Lists.{at_line}
use Rattle.cached.proofs.Outs.{before_acts}
use Rattle.cached.proofs.Phases.{Lively, asked_small}
use Rattle.cached.proofs.Sweep.{Clean, asked_left, unasked_still, now_quiet, swept_now, sweep_next, clean_still, ends}

-- the largest of a row of numbers
abbrev larger : ℕ → ℕ → ℕ
larger a b = pick (ltb a b) b a

unfoldable most : (ℕ → ℕ) → ℕ → ℕ
most f zero = 0
most f (suc n) = larger (f n) (most f n)

larger_falls : (a b c d : ℕ) → a ≤ c - 1 → b ≤ d - 1 → larger a b ≤ larger c d - 1
larger_falls a b c d h i = grind arith

larger_few : (a b c : ℕ) → a ≤ c → b ≤ c → larger a b ≤ c
larger_few a b c h i = grind arith

larger_none : (a b : ℕ) → larger a b ≡ 0 → (a ≡ 0) × (b ≡ 0)
larger_none a b h = (grind arith, grind arith)

most_falls : (f g : ℕ → ℕ) (n : ℕ) → ((p : ℕ) → p < n → f p ≤ g p - 1) → most f n ≤ most g n - 1
unfolding most
most_falls f g zero h = omega arith
most_falls f g (suc n) h = larger_falls (f n) (most f n) (g n) (most g n) (h n (omega arith)) (most_falls f g n (λ p l. h p (omega arith)))

most_few : (f : ℕ → ℕ) (n c : ℕ) → ((p : ℕ) → f p ≤ c) → most f n ≤ c
unfolding most
most_few f zero c h = omega arith
most_few f (suc n) c h = larger_few (f n) (most f n) c (h n) (most_few f n c h)

most_none : (f : ℕ → ℕ) (n : ℕ) → most f n ≡ 0 → (p : ℕ) → p < n → f p ≡ 0
unfolding most
most_none f zero e p l = absurd (omega arith)
most_none f (suc n) e p l = by_test (eqb p n) (λ i. let j : p ≡ n = same p n i in rw j (larger_none (f n) (most f n) e).0)
    (λ i. let j : p ≢ n = differ p n i in most_none f n (larger_none (f n) (most f n) e).1 p (omega arith))

-- how many slots a core that is to hand back slot s next hands back before that of place p
abbrev gap : ℕ → ℕ → ℕ
gap s p = (p % 64 + (64 - s % 64)) % 64

gap_falls : (s p : ℕ) → p % 64 ≢ s % 64 → suc (gap ((s + 1) % 64) p) ≡ gap s p
gap_falls s p n = omega arith

gap_few : (s p : ℕ) → suc (gap s p) ≤ 64
gap_few s p = omega arith

-- a slot is dirty
abbrev is_dirty : Slot → Bool
is_dirty empty = false
is_dirty (holds a o d w) = d

clean_is : (x : Slot) → is_dirty x ≡ false → Clean x
clean_is x e a = go x a e
  where
    go : (x : Slot) (a : ℕ) → is_dirty x ≡ false → dirties x a ≡ false
    go x a e = grind arith

is_clean : (x : Slot) → Clean x → is_dirty x ≡ false
is_clean empty h = refl
is_clean (holds a o d w) h = go a d (h a)
  where
    go : (a : ℕ) (d : Bool) → pick d (eqb a a) false ≡ false → d ≡ false
    go a d h = grind arith

-- how many cycles until a dirty slot is handed back
abbrev todo : (ℕ → Slot) → (ℕ → ℕ) → ℕ → ℕ
todo f s p = pick (is_dirty (f p)) (suc (gap (s (p / 64)) p)) 0

-- something is on its way to a core
abbrev any_coming : (ℕ → Grant) → Bool
any_coming g = not (is_quiet (g 0)) || not (is_quiet (g 1)) || not (is_quiet (g 2)) || not (is_quiet (g 3))

-- cycles until nothing is dirty: probes behind grants, probes, grants, and then each slot in its turn
abbrev left_of : (ℕ → Probe) → (ℕ → Grant) → (ℕ → Slot) → (ℕ → ℕ) → ℕ
left_of t g f s = pick (any_stuck t g) 67 (pick (not (all_unasked t)) 66 (pick (any_coming g) 65 (most (todo f s) 256)))

todo_few : (f : ℕ → Slot) (s : ℕ → ℕ) (p : ℕ) → todo f s p ≤ 64
todo_few f s p = choose (λ (n : ℕ). n ≤ 64) (is_dirty (f p)) _ _ (λ e. gap_few (s (p / 64)) p) (λ e. omega arith)

left_few : (t : ℕ → Probe) (g : ℕ → Grant) (f : ℕ → Slot) (s : ℕ → ℕ) → left_of t g f s ≤ 67
left_few t g f s = choose (λ (n : ℕ). n ≤ 67) (any_stuck t g) _ _ (λ _. omega arith) (λ _. choose (λ (n : ℕ). n ≤ 67) (not (all_unasked t)) _ _ (λ _. omega arith)
    (λ _. choose (λ (n : ℕ). n ≤ 67) (any_coming g) _ _ (λ _. omega arith) (λ _. let z = most_few (todo f s) 256 64 (todo_few f s) in omega arith)))

unstuck_few : (t : ℕ → Probe) (g : ℕ → Grant) (f : ℕ → Slot) (s : ℕ → ℕ) → any_stuck t g ≡ false → left_of t g f s ≤ 66
unstuck_few t g f s e = rw e (choose (λ (n : ℕ). n ≤ 66) (not (all_unasked t)) _ _ (λ _. omega arith)
    (λ _. choose (λ (n : ℕ). n ≤ 66) (any_coming g) _ _ (λ _. omega arith) (λ _. let z = most_few (todo f s) 256 64 (todo_few f s) in omega arith)))

unasked_few : (t : ℕ → Probe) (g : ℕ → Grant) (f : ℕ → Slot) (s : ℕ → ℕ) → any_stuck t g ≡ false → all_unasked t ≡ true → left_of t g f s ≤ 65
unasked_few t g f s e u = rw (e, u) (choose (λ (n : ℕ). n ≤ 65) (any_coming g) _ _ (λ _. omega arith) (λ _. let z = most_few (todo f s) 256 64 (todo_few f s) in omega arith))

quiet_left : (t : ℕ → Probe) (g : ℕ → Grant) (f : ℕ → Slot) (s : ℕ → ℕ) → any_stuck t g ≡ false → all_unasked t ≡ true → any_coming g ≡ false → left_of t g f s ≡ most (todo f s) 256
quiet_left t g f s e u q = rw (e, u, q)

-- nothing stands behind a grant where each that is asked has none; or where nobody is asked
-- and the other way round
unstuck_at : (t : ℕ → Probe) (g : ℕ → Grant) (k : ℕ) → k < 4 → any_stuck t g ≡ false → is_unasked (t k) ≡ false → is_quiet (g k) ≡ true
unstuck_at t g k l e n = grind arith

four_true : (a b c d : Bool) → a ≡ true → b ≡ true → c ≡ true → d ≡ true → (a && b && c && d) ≡ true
four_true a b c d e f g h = grind arith

all_true : (t : ℕ → Probe) → ((k : ℕ) → is_unasked (t k) ≡ true) → all_unasked t ≡ true
all_true t h = four_true _ _ _ _ (h 0) (h 1) (h 2) (h 3)

all_quiet : (g : ℕ → Grant) → ((k : ℕ) → k < 4 → g k ≡ quiet) → any_coming g ≡ false
all_quiet g h = rw (h 0 (omega arith), h 1 (omega arith), h 2 (omega arith), h 3 (omega arith))

quiet_at : (g : ℕ → Grant) (k : ℕ) → k < 4 → any_coming g ≡ false → g k ≡ quiet
quiet_at g k l e = quiet_is (g k) (go g k l e)
  where
    go : (g : ℕ → Grant) (k : ℕ) → k < 4 → any_coming g ≡ false → is_quiet (g k) ≡ true
    go g k l e = grind arith

module _ (κ : Kind) (laws : Laws κ) where
  abbrev left : State κ → ℕ
  left c = left_of c.hints.probe c.lines.coming c.lines.slot c.hints.sweep

  module _ (c : State κ) (m : List (List ℕ)) (s : List (ℕ × ℕ)) (μ : Manual κ.isa) (g : Agrees κ laws c m s μ) (v : Lively κ laws c)
      (xs : List (ℕ × List ℕ)) (true-lines : True (at_line m) xs) (up : ℕ → Bool) (off : (k : ℕ) → c.on k ≡ false) where
    abbrev c₄ : State κ
    c₄ = (act_all κ up (before_acts κ xs c)).0

    left_asked : (k : ℕ) → is_unasked (c₄.hints.probe k) ≡ false → (is_unasked (c.hints.probe k) ≡ false) × (is_quiet (c.lines.coming k) ≡ false) × (is_quiet (c₄.lines.coming k) ≡ true)
    left_asked k n = asked_left κ laws c m s μ g v xs true-lines up off k n

    -- nothing stands behind a grant at the end
    unstuck_end : any_stuck c₄.hints.probe c₄.lines.coming ≡ false
    unstuck_end = stuck_free c₄.hints.probe c₄.lines.coming (λ k n. (left_asked k n).2)

    -- and where nothing stood behind one, nothing is asked at the end
    unasked_end : any_stuck c.hints.probe c.lines.coming ≡ false → all_unasked c₄.hints.probe ≡ true
    unasked_end e = four_true _ _ _ _ (at 0 (omega arith)) (at 1 (omega arith)) (at 2 (omega arith)) (at 3 (omega arith))
      where
        at : (k : ℕ) → k < 4 → is_unasked (c₄.hints.probe k) ≡ true
        at k l = not_false (is_unasked (c₄.hints.probe k)) (λ n. let z = left_asked k n in clash (unstuck_at c.hints.probe c.lines.coming k l e z.0) z.1)

    module _ (still : all_unasked c.hints.probe ≡ true) where
      every : (k : ℕ) → is_unasked (c.hints.probe k) ≡ true
      every k = not_false (is_unasked (c.hints.probe k)) (λ n. clash
          (small_unasked c.hints.probe k (asked_small κ laws c (record { outside = m; spoken = s; manual = μ; agrees = g }) v k n) still) n)

      every_end : (k : ℕ) → is_unasked (c₄.hints.probe k) ≡ true
      every_end k = unasked_still κ laws c m s μ g v xs true-lines up off every k

      quiet_end : any_coming c₄.lines.coming ≡ false
      quiet_end = all_quiet c₄.lines.coming (λ k l. now_quiet κ laws c m s μ g v xs true-lines up off every k l)

      left_end : left c₄ ≡ most (todo c₄.lines.slot c₄.hints.sweep) 256
      left_end = quiet_left c₄.hints.probe c₄.lines.coming c₄.lines.slot c₄.hints.sweep unstuck_end (all_true c₄.hints.probe every_end) quiet_end

      module _ (calm : any_coming c.lines.coming ≡ false) where
        -- a slot that is dirty at the end was so before, and is not the one handed back
        todo_falls : (p : ℕ) → p < 256 → todo c₄.lines.slot c₄.hints.sweep p ≤ todo c.lines.slot c.hints.sweep p - 1
        todo_falls p l = choose (λ (n : ℕ). n ≤ todo c.lines.slot c.hints.sweep p - 1) (is_dirty (c₄.lines.slot p)) _ _ (λ e. dirty e) (λ e. omega arith)
          where
            core_small : p / 64 < 4
            core_small = omega arith

            was : is_dirty (c₄.lines.slot p) ≡ true → is_dirty (c.lines.slot p) ≡ true
            was e = not_false (is_dirty (c.lines.slot p)) (λ n. clash e (is_clean (c₄.lines.slot p)
                (clean_still κ laws c m s μ g v xs true-lines up off every (λ k i. quiet_at c.lines.coming k i calm) p core_small (clean_is (c.lines.slot p) n))))

            whole : (s : ℕ) → p % 64 ≡ s % 64 → 64 * (p / 64) + s % 64 ≡ p
            whole s e = omega arith

            not_swept : is_dirty (c₄.lines.slot p) ≡ true → p % 64 ≢ c.hints.sweep (p / 64) % 64
            not_swept e i = clash e (ap is_dirty (ap c₄.lines.slot (sym (whole (c.hints.sweep (p / 64)) i)) ∙ swept_now κ laws c m s μ g v xs true-lines up off every (p / 64) core_small))

            falls_by : (a b d : ℕ) → b ≡ d → suc a ≡ b → suc a ≤ suc d - 1
            falls_by a b d e i = omega arith

            dirty : is_dirty (c₄.lines.slot p) ≡ true → suc (gap (c₄.hints.sweep (p / 64)) p) ≤ todo c.lines.slot c.hints.sweep p - 1
            dirty e = rw (was e, sweep_next κ laws c m s μ g v xs true-lines up off every (p / 64) core_small)
                (falls_by (gap ((c.hints.sweep (p / 64) + 1) % 64) p) (gap (c.hints.sweep (p / 64)) p) (gap (c.hints.sweep (p / 64)) p) refl (gap_falls (c.hints.sweep (p / 64)) p (not_swept e)))

        slots_fall : left c₄ ≤ most (todo c.lines.slot c.hints.sweep) 256 - 1
        slots_fall = rw left_end (most_falls (todo c₄.lines.slot c₄.hints.sweep) (todo c.lines.slot c.hints.sweep) 256 todo_falls)

    -- each stage takes a cycle at most
    four_falls : left c₄ ≤ left c - 1
    four_falls = choose (λ (n : ℕ). left c₄ ≤ n - 1) (any_stuck c.hints.probe c.lines.coming) _ _
        (λ e. unstuck_few c₄.hints.probe c₄.lines.coming c₄.lines.slot c₄.hints.sweep unstuck_end)
        (λ e. choose (λ (n : ℕ). left c₄ ≤ n - 1) (not (all_unasked c.hints.probe)) _ _
        (λ a. unasked_few c₄.hints.probe c₄.lines.coming c₄.lines.slot c₄.hints.sweep unstuck_end (unasked_end e))
        (λ a. choose (λ (n : ℕ). left c₄ ≤ n - 1) (any_coming c.lines.coming) _ _
        (λ q. rw (left_end (unnot (all_unasked c.hints.probe) a)) (most_few _ 256 64 (todo_few c₄.lines.slot c₄.hints.sweep)))
        (λ q. slots_fall (unnot (all_unasked c.hints.probe) a) q)))

    falls : left (cycle κ c xs up).0 ≤ left c - 1
    unfolding cycle
    falls = subst (λ (x : State κ). left x ≤ left c - 1) (sym (ends κ laws c m s μ g v xs true-lines up off)) four_falls

  -- when nothing is left no copy is dirty
  module _ (c : State κ) (b : Board) (μ : Manual κ.isa) (h : Inv κ laws c b μ) (none : left c ≡ 0) where
    none_stuck : any_stuck c.hints.probe c.lines.coming ≡ false
    none_stuck = choose (λ (n : ℕ). n ≡ 0 → any_stuck c.hints.probe c.lines.coming ≡ false) (any_stuck c.hints.probe c.lines.coming) _ _ (λ e i. absurd (omega arith)) (λ e i. e) none

    none_asked : all_unasked c.hints.probe ≡ true
    none_asked = choose (λ (n : ℕ). n ≡ 0 → all_unasked c.hints.probe ≡ true) (not (all_unasked c.hints.probe)) 66 _ (λ e i. absurd (omega arith)) (λ e i. unnot (all_unasked c.hints.probe) e) (rw none_stuck at none)

    none_coming : any_coming c.lines.coming ≡ false
    none_coming = choose (λ (n : ℕ). n ≡ 0 → any_coming c.lines.coming ≡ false) (any_coming c.lines.coming) 65 _ (λ e i. absurd (omega arith)) (λ e i. e) (rw (none_stuck, none_asked) at none)

    none_dirty : (p : ℕ) → p < 256 → is_dirty (c.lines.slot p) ≡ false
    none_dirty p l = go (is_dirty (c.lines.slot p)) refl
        (most_none (todo c.lines.slot c.hints.sweep) 256 (sym (quiet_left c.hints.probe c.lines.coming c.lines.slot c.hints.sweep none_stuck none_asked none_coming) ∙ none) p l)
      where
        go : (d : Bool) → is_dirty (c.lines.slot p) ≡ d → pick d (suc (gap (c.hints.sweep (p / 64)) p)) 0 ≡ 0 → d ≡ false
        go true e i = absurd (omega arith)
        go false e i = refl

    -- a place that is not there has nothing
    far_clean : (p a : ℕ) (x : Slot) (e : Entry) → e ≡ tag x → Shape c.size p e → (p < 256 → ⊥) → dirties x a ≡ false
    far_clean p a empty e i k l = refl
    far_clean p a (holds b o d w) e i k l = absurd (l (subst (Shape c.size p) i k).2)

    clean_view : (p a : ℕ) → dirties (view c.lines p) a ≡ false
    clean_view p a = by_test (ltb p 256)
        (λ e. let l : p < 256 = less p 256 e in
        ap (λ (x : Grant). dirties (over x p (c.lines.slot p)) a) (quiet_at c.lines.coming (p / 64) (omega arith) none_coming) ∙ clean_is (c.lines.slot p) (none_dirty p l) a)
        (λ e. far_clean p a (view c.lines p) (c.lines.entry p) (h.agrees.safe.tidy.mirror p) (h.agrees.safe.tidy.shape p) (λ l. let i = not_less p 256 e in omega arith))

    same_memory : b.memory ≡ μ.memory
    same_memory = ext_get_or [] b.memory μ.memory (h.agrees.outside ∙ sym h.agrees.inside) (λ a l. h.agrees.safe.coherent.stored a (λ p. clean_view p a))

  -- a core is on where its machine is
  off_chip : (c : State κ) (b : Board) (μ : Manual κ.isa) → Inv κ laws c b μ → ((k : ℕ) → (core κ.isa μ k).on ≡ false) → (k : ℕ) → c.on k ≡ false
  off_chip c b μ h off k = by_test (ltb k c.count) (λ e. sym (ap (λ (x : Core κ.isa). x.on) (h.agrees.cores k (less k c.count e))) ∙ off k) (λ e. h.beyond k (not_less k c.count e))

  pub inv_drains : Drains κ.isa (chip κ) (Inv κ laws)
  inv_drains = record {
    left = left;
    little = λ c b μ h. let z = left_few c.hints.probe c.lines.coming c.lines.slot c.hints.sweep in omega arith;
    falls = λ c b μ x h off. falls c b.memory b.said μ h.agrees h.live (handed b.memory x.given 0 b.waiting) (handed_true b.memory x.given 0 b.waiting) x.raised (off_chip c b μ h off);
    clean = λ c b μ h off none. same_memory c b μ h none;
  }
