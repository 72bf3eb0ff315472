-- What a cycle puts out: rows with empty places, the words said, the interrupts of all cores; and the line that comes.
use Rattle.std.proofs.Common.{◌≡◌, ℕ, zero, suc, ◌+◌, ◌*◌, ◌<◌, ◌≤◌, Bool, cond, eqb, ltb, ◌≢◌, List, [], ◌∷◌, ◌++◌, map, length, get_or, set, replicate, Some, None, Option, sym, refl, ap, ◌∙◌, inl, inr, add-one, arith}
use mathlib.Core.Path.{fun_ext}
use borrow.Rule.Slice.PartMut.{put_mid}
use Rattle.std.proofs.lemmas.List.{get_or-set_other}
use Rattle.std.proofs.lemmas.Bool.{cases_eq, cases_lt, eq-eqb, le-ltb, lt-ltb, ne_eqb}
use Rattle.words.specs.Parts.{part}
use Rattle.words.proofs.Parts.{part_here, part_word}
use Rattle.rv32.specs.Execute.{fetch, start}
use Rattle.rv32.specs.declared.core_state.Core.{Core}
use Rattle.cores.specs.Machines.{pick}
use Rattle.cores.specs.Board.{Out}
use Rattle.cores.specs.Loop.{Step as Step-of, silent, joined, then, each}
use Rattle.cores.specs.Ports.{line_of, out_of, said_at, said_of, somes}
use Rattle.cores.specs.Put.{put}
use Rattle.cores.specs.declared.port.Event as port
use Rattle.cores.specs.declared.port.Line.{Line}
use Rattle.cores.specs.declared.port.Out as port-out
use Rattle.soc.proofs.Regions.{picked, unpicked}
use Rattle.soc.specs.Layout.{shared, state_from, state_of, with_cpu, with_on, with_shared}
use Rattle.soc.specs.Rv.{rv}
use Rattle.soc.specs.Soc.{State, act, cycle, fresh, receive, received, take_interrupt}
use Rattle.soc.specs.Turn.{EmptyFrom, filled}
use Rattle.soc.specs.declared.control.Control.{Control}

-- a row of empty places
somes_none : {A B : Type 0} (of : A → B) (l : List (Option A)) → ((j : ℕ) → get_or l j None ≡ None) → somes of l ≡ []
somes_none of [] h = refl
somes_none of (None ∷ l) h = somes_none of l (λ j. h (suc j))
somes_none of (Some x ∷ l) h = let e = h 0 in let z : ◌≡◌ {A = ℕ} 0 1 = cc in absurd (omega arith)

somes_first : {A B : Type 0} (of : A → B) (r : Option A) (l : List (Option A)) → somes of l ≡ [] → somes of (r ∷ l) ≡ somes of (r ∷ [])
somes_first of None l h = h
somes_first {A} {B} of (Some x) l h = ap {B = List B} (λ bs. of x ∷ bs) h

-- a row whose places from k on are empty, after place k was filled
pub somes_set : {A B : Type 0} (of : A → B) (l : List (Option A)) (k : ℕ) (r : Option A) → k < length l → ((j : ℕ) → k ≤ j → get_or l j None ≡ None) →
    somes of (set l k r) ≡ somes of l ++ somes of (r ∷ [])
somes_set of [] k r h o = absurd (omega arith)
somes_set {A} {B} of (x ∷ l) zero r h o =
    somes_first of r l (somes_none of l (λ j. o (suc j) (omega arith)))
    ∙ ap {B = List B} (λ bs. bs ++ somes of (r ∷ [])) (sym (somes_none of (x ∷ l) (λ j. o j (omega arith))))
somes_set of (None ∷ l) (suc k) r h o = somes_set of l k r (omega arith) (λ j g. o (suc j) (omega arith))
somes_set {A} {B} of (Some x ∷ l) (suc k) r h o = ap {B = List B} (λ bs. of x ∷ bs) (somes_set of l k r (omega arith) (λ j g. o (suc j) (omega arith)))

pub empty_row : (n j : ℕ) → get_or {A = Option port.Event} (replicate n None) j None ≡ None
empty_row zero j = refl
empty_row (suc n) zero = refl
empty_row (suc n) (suc j) = empty_row n j

pub empty_set : (l : List (Option port.Event)) (k : ℕ) (r : Option port.Event) → EmptyFrom k l → EmptyFrom (k + 1) (set l k r)
empty_set l k r o j h = let ne : j ≢ k = omega arith in get_or-set_other l k j r None ne ∙ o j (omega arith)

-- a step, then another
pub then_is : {S : Type 0} (f g : Step-of S) (s s' s'' : S) (o o' : Out) → s' ≡ (f s).0 → o ≡ (f s).1 → s'' ≡ (g s').0 → o' ≡ (g s').1 → (s'', joined o o') ≡ then f g s
then_is f g s s' s'' o o' p q u v =
    λ i. ((u ∙ ap (λ t. (g t).0) p) i, (ap (joined o) (v ∙ ap (λ t. (g t).1) p) ∙ ap (λ x. joined x (g (f s).0).1) q) i)

-- one core more
pub each_more : {S : Type 0} (f : ℕ → Step-of S) (k : ℕ) (s₀ s s' : S) (o o' : Out) → s ≡ (each f k s₀).0 → o ≡ (each f k s₀).1 → s' ≡ (f k s).0 → o' ≡ (f k s).1 →
    (s', joined o o') ≡ each f (k + 1) s₀
unfolding each
each_more f k s₀ s s' o o' p q u v = rw add-one (then_is (each f k) (f k) s₀ s s' o o' p q u v)

-- a whole cycle
pub cycle_is : (lines : List (ℕ × List ℕ)) (up : ℕ → Bool) (h h₁ h₂ h₃ : State rv) (o o' : Out) → h₁ ≡ received rv lines h →
    h₂ ≡ (each (take_interrupt rv up) 4 h₁).0 → o ≡ (each (take_interrupt rv up) 4 h₁).1 → h₃ ≡ (act rv h₂).0 → o' ≡ (act rv h₂).1 → (h₃, joined o o') ≡ cycle rv h lines up
unfolding cycle
cycle_is lines up h h₁ h₂ h₃ o o' p q r u v =
    let rest : (h₃, joined o o') ≡ then (each (take_interrupt rv up) 4) (act rv) h₁ = then_is (each (take_interrupt rv up) 4) (act rv) h₁ h₂ h₃ o o' q r u v in
    then_is (receive rv lines) (then (each (take_interrupt rv up) 4) (act rv)) h h₁ h₃ silent (joined o o') p refl (ap (λ x. x.0) rest) (ap (λ x. x.1) rest)

-- the words said
pub said_one : (k x : ℕ) → k < 4 → said_of (set (set (replicate 8 0) (2 * k) 1) (2 * k + 1) x) ≡ (k, x) ∷ []
said_one zero x h = refl
said_one (suc zero) x h = refl
said_one (suc (suc zero)) x h = refl
said_one (suc (suc (suc zero))) x h = refl
said_one (suc (suc (suc (suc k)))) x h = absurd (omega arith)

-- they are read from the first eight words
said_front_at : (w : List ℕ) (k : ℕ) → k < 4 → said_at (part 0 8 w) k ≡ said_at w k
said_front_at w k h =
    let at : (j : ℕ) → j < 8 → get_or (part 0 8 w) j 0 ≡ get_or w j 0 = λ j l. part_word 0 8 w j 0 l ∙ ap (λ i. get_or w i 0) (omega arith) in
    λ i. cond (eqb (at (2 * k) (omega arith) i) 0) [] ((k, at (2 * k + 1) (omega arith) i) ∷ [])

said_front : (w : List ℕ) → said_of (part 0 8 w) ≡ said_of w
said_front w =
    λ i. said_front_at w 0 (omega arith) i ++ said_front_at w 1 (omega arith) i ++ said_front_at w 2 (omega arith) i ++ said_front_at w 3 (omega arith) i

pub wrote_said : (o : port-out.Out) (w ys : List ℕ) → length ys ≡ 8 → 8 ≤ length w → out_of o (put_mid 0 8 w ys) ≡ out_of o ys
wrote_said o w ys e h = λ i. record {
  asks = (out_of o ys).asks;
  writes = (out_of o ys).writes;
  says = (sym (said_front (put_mid 0 8 w ys)) ∙ ap said_of (part_here 0 8 8 w ys e h)) i;
  did = (out_of o ys).did;
}

-- at most one line is written
pub writes_one : (w : Option Line) → somes line_of (w ∷ None ∷ None ∷ None ∷ []) ≡ somes line_of (w ∷ [])
writes_one None = refl
writes_one (Some l) = refl

-- no line comes, or the first is taken
pub received_none : (ls : List Line) (h : State rv) → length ls ≡ 0 → received rv (map line_of ls) h ≡ h
received_none [] h e = refl
received_none (l ∷ ls) h e = absurd (omega arith)

pub received_first : (ls : List Line) (h : State rv) (s : Control) (c : Core) (code : Option ℕ) (d : Line) → 0 < length ls → s ≡ shared h → c ≡ h.cpu s.turn →
    code ≡ fetch s.size c → with_shared h (filled s code (get_or ls 0 d)) ≡ received rv (map line_of ls) h
received_first [] h s c code d n p q r = absurd (omega arith)
received_first (l ∷ ls) h s c code d n p q r =
    let at : code ≡ fetch h.size (h.cpu h.turn) = r ∙ ap (fetch s.size) q ∙ ap (λ (t : Control). fetch t.size (h.cpu t.turn)) p in
    ap (λ t. with_shared h (filled t code l)) p ∙ ap (λ o. with_shared h (filled (shared h) o l)) at

-- a new chip: four new cores, of which the first n are on. One core more
pub begun_more : (h h' h'' : State rv) (k n : ℕ) (c : Core) → h' ≡ with_cpu h k c → c ≡ start k → h'' ≡ with_on h' k (ltb k n) →
    ((j : ℕ) → j < k → (h.cpu j ≡ start j) × (h.on j ≡ ltb j n)) → (j : ℕ) → j < k + 1 → (h''.cpu j ≡ start j) × (h''.on j ≡ ltb j n)
begun_more h h' h'' k n c p q r before j l =
    let cpu : h''.cpu j ≡ put h.cpu k c j = ap (λ (t : State rv). t.cpu j) r ∙ ap (λ (t : State rv). t.cpu j) p in
    let on : h''.on j ≡ put h.on k (ltb k n) j = ap (λ (t : State rv). t.on j) r ∙ ap (λ (t : State rv). put t.on k (ltb k n) j) p in
    elim (cases_eq j k) [
      | inl e ↦ (
        cpu ∙ picked _ _ _ (eq-eqb j k e) ∙ q ∙ ap start (sym e),
        on ∙ picked _ _ _ (eq-eqb j k e) ∙ ap (λ m. ltb m n) (sym e),
      )
      | inr ne ↦ (
        cpu ∙ unpicked _ _ _ (ne_eqb j k ne) ∙ (before j (omega arith)).0,
        on ∙ unpicked _ _ _ (ne_eqb j k ne) ∙ (before j (omega arith)).1,
      )
    ]

-- beyond the fourth none is there
cpu_begun : (w : List ℕ) → ((j : ℕ) → j < 4 → (state_of w).cpu j ≡ start j) → (state_of w).cpu ≡ (λ j. pick (ltb j 4) (start j) (start 0))
unfolding state_of
cpu_begun w h =
    fun_ext (λ j. elim (cases_lt j 4) [ inl l ↦ h j l ∙ sym (picked (ltb j 4) (start j) (start 0) (lt-ltb j 4 l)) | inr g ↦ rw (le-ltb j 4 g) refl ])

on_begun : (w : List ℕ) (n : ℕ) → n ≤ 4 → ((j : ℕ) → j < 4 → (state_of w).on j ≡ ltb j n) → (state_of w).on ≡ (λ j. ltb j n)
unfolding state_of
on_begun w n m h =
    fun_ext (λ j. elim (cases_lt j 4) [ inl l ↦ h j l | inr g ↦ rw (le-ltb j 4 g, le-ltb j n (omega arith)) refl ])

pub begun : (w : List ℕ) (n lines : ℕ) → n ≤ 4 → ((j : ℕ) → j < 4 → ((state_of w).cpu j ≡ start j) × ((state_of w).on j ≡ ltb j n)) →
    with_shared (state_of w) (record { count = n; size = lines; turn = 0; asked = None; fetched = None; loaded = None }) ≡ fresh rv n lines
begun w n lines m h =
    λ i. state_from (cpu_begun w (λ j l. (h j l).0) i) (on_begun w n m (λ j l. (h j l).1) i)
    (record { count = n; size = lines; turn = 0; asked = None; fetched = None; loaded = None })
