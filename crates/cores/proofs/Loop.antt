-- What small steps keep, a cycle keeps; and what a loop over cores does to one core is what that core's own step does.
use Rattle.std.proofs.Common.{◌≡◌, ℕ, zero, suc, ◌+◌, ◌<◌, ◌≤◌, eqb, ◌≢◌, List, [], ◌++◌, length, refl, ◌∙◌, append_assoc, arith}
use Rattle.cores.specs.Machines.{Event, Isa, Manual, events}
use Rattle.cores.specs.Board.{Out, with_lines}
use Rattle.cores.specs.Loop.{silent, Step, then, each}
use Rattle.cores.specs.Owed.{Allowed}
use Rattle.cores.proofs.Basics.{by_test, same, differ, append_nil, with_lines_append}
use Rattle.cores.proofs.Machines.{events_append, events_many, allowed_append}

-- Agrees: a chip's state, memory outside, the lines that wait, what was said, and the manual's machines
module _ (I : Isa) {S : Type 0} (Agrees : S → List (List ℕ) → List ℕ → List (ℕ × ℕ) → Manual I → Type 0) where
  -- the agreement after a step, with what it put out
  abbrev pub After : S × Out → List (List ℕ) → List ℕ → List (ℕ × ℕ) → Manual I → Type 0
  After r m w s μ = Agrees r.0 (with_lines m r.1.writes) (w ++ r.1.asks) (s ++ r.1.says) (events I μ r.1.did)

  -- a step of a chip of n cores keeps the agreement
  abbrev pub Keeps : ℕ → Step S → Type 0
  Keeps n f = (c : S) (m : List (List ℕ)) (w : List ℕ) (s : List (ℕ × ℕ)) (μ : Manual I) → length μ.cores ≡ n → Agrees c m w s μ → After (f c) m w s μ

  -- a step that does nothing keeps it
  pub stay_keeps : (c : S) (m : List (List ℕ)) (w : List ℕ) (s : List (ℕ × ℕ)) (μ : Manual I) → Agrees c m w s μ → After (c, silent) m w s μ
  unfolding with_lines events
  stay_keeps c m w s μ a = rw (append_nil s, append_nil w) a

  -- two steps, seen as one after the other on the board
  pub then_here : (f g : Step S) (c : S) (m : List (List ℕ)) (w : List ℕ) (s : List (ℕ × ℕ)) (μ : Manual I) →
      After (g (f c).0) (with_lines m (f c).1.writes) (w ++ (f c).1.asks) (s ++ (f c).1.says) (events I μ (f c).1.did) → After (then f g c) m w s μ
  then_here f g c m w s μ a = rw (
    with_lines_append m (f c).1.writes (g (f c).0).1.writes,
    events_append I μ (f c).1.did (g (f c).0).1.did,
    ← (append_assoc s (f c).1.says (g (f c).0).1.says),
    ← (append_assoc w (f c).1.asks (g (f c).0).1.asks),
  ) a

  pub then_after : (n : ℕ) (f g : Step S) (c : S) (m : List (List ℕ)) (w : List ℕ) (s : List (ℕ × ℕ)) (μ : Manual I) → length μ.cores ≡ n →
      After (f c) m w s μ → Keeps n g → After (then f g c) m w s μ
  then_after n f g c m w s μ e a q = then_here f g c m w s μ (q _ _ _ _ _ (events_many I μ (f c).1.did ∙ e) a)

  pub then_keeps : (n : ℕ) (f g : Step S) → Keeps n f → Keeps n g → Keeps n (then f g)
  then_keeps n f g p q c m w s μ e a = then_after n f g c m w s μ e (p c m w s μ e a) q

  -- a loop keeps what each core's step keeps
  pub each_keeps : (n : ℕ) (f : ℕ → Step S) (j : ℕ) → ((k : ℕ) → k < j → Keeps n (f k)) → Keeps n (each f j)
  unfolding each
  each_keeps n f zero h c m w s μ e a = stay_keeps c m w s μ a
  each_keeps n f (suc j) h c m w s μ e a = then_after n (each f j) (f j) c m w s μ e (each_keeps n f j (λ k l. h k (omega arith)) c m w s μ e a) (h j (omega arith))

  -- the interrupts of a step stand where the manual lets them
  abbrev pub Lets : ℕ → Step S → Type 0
  Lets n f = (c : S) (m : List (List ℕ)) (w : List ℕ) (s : List (ℕ × ℕ)) (μ : Manual I) → length μ.cores ≡ n → Agrees c m w s μ → Allowed I μ (f c).1.did

  pub then_lets : (n : ℕ) (f g : Step S) → Keeps n f → Lets n f → Lets n g → Lets n (then f g)
  then_lets n f g k p q c m w s μ e a =
      allowed_append I μ (f c).1.did (g (f c).0).1.did (p c m w s μ e a) (q _ _ _ _ _ (events_many I μ (f c).1.did ∙ e) (k c m w s μ e a))

  pub each_lets : (n : ℕ) (f : ℕ → Step S) (j : ℕ) → ((k : ℕ) → k < j → Keeps n (f k)) → ((k : ℕ) → k < j → Lets n (f k)) → Lets n (each f j)
  unfolding each
  each_lets n f zero h i c m w s μ e a = tt
  each_lets n f (suc j) h i c m w s μ e a =
      then_lets n (each f j) (f j) (each_keeps n f j (λ k l. h k (omega arith))) (each_lets n f j (λ k l. h k (omega arith)) (λ k l. i k (omega arith))) (i j (omega arith)) c m w s μ e a

-- a loop seen from core k: V is what that core sees of the chip, and the others' steps leave it
module _ {S V : Type 0} (view : S → V) (f : ℕ → Step S) (k : ℕ) (others : (j : ℕ) (c : S) → j ≢ k → view (f j c).0 ≡ view c) where
  -- before its own step nothing has changed
  pub before : (j : ℕ) (c : S) → j ≤ k → view (each f j c).0 ≡ view c
  unfolding each
  before zero c l = refl
  before (suc j) c l = others j (each f j c).0 (omega arith) ∙ before j c (omega arith)

  -- after it, it is what its own step made
  pub behind : (j : ℕ) (c : S) → k < j → view (each f j c).0 ≡ view (f k (each f k c).0).0
  unfolding each
  behind zero c l = absurd (omega arith)
  behind (suc j) c l = by_test (eqb j k) (λ e. rw (same j k e))
      (λ e. let n : j ≢ k = differ j k e in others j (each f j c).0 n ∙ behind j c (omega arith))

-- a loop's row of events, seen from core k: `tell` counts in rows, as the steps or interrupts of core k, and the others' steps tell nothing
module _ {S : Type 0} (tell : List Event → ℕ) (nil : tell [] ≡ 0) (append : (xs ys : List Event) → tell (xs ++ ys) ≡ tell xs + tell ys)
    (f : ℕ → Step S) (k : ℕ) (others : (j : ℕ) (c : S) → j ≢ k → tell (f j c).1.did ≡ 0) where
  pub before_row : (j : ℕ) (c : S) → j ≤ k → tell (each f j c).1.did ≡ 0
  unfolding each
  before_row zero c l = nil
  before_row (suc j) c l =
      let e = append (each f j c).1.did (f j (each f j c).0).1.did in
      let a : tell (each f j c).1.did ≡ 0 = before_row j c (omega arith) in
      let b : tell (f j (each f j c).0).1.did ≡ 0 = others j (each f j c).0 (omega arith) in
      omega arith

  own_step : (c : S) → tell (each f (suc k) c).1.did ≡ tell (f k (each f k c).0).1.did
  unfolding each
  own_step c =
      let e = append (each f k c).1.did (f k (each f k c).0).1.did in
      let a : tell (each f k c).1.did ≡ 0 = before_row k c (omega arith) in
      omega arith

  later_step : (j : ℕ) (c : S) → j ≢ k → tell (each f (suc j) c).1.did ≡ tell (each f j c).1.did
  unfolding each
  later_step j c n =
      let e = append (each f j c).1.did (f j (each f j c).0).1.did in
      let b : tell (f j (each f j c).0).1.did ≡ 0 = others j (each f j c).0 n in
      omega arith

  -- the row tells what its own step tells
  pub own_row : (j : ℕ) (c : S) → k < j → tell (each f j c).1.did ≡ tell (f k (each f k c).0).1.did
  own_row zero c l = absurd (omega arith)
  own_row (suc j) c l = by_test (eqb j k) (λ e. rw (same j k e) (own_step c)) (λ e. let n : j ≢ k = differ j k e in later_step j c n ∙ own_row j c (omega arith))

-- a loop of steps that tell nothing tells nothing
pub none_row : {S : Type 0} (tell : List Event → ℕ) → tell [] ≡ 0 → ((xs ys : List Event) → tell (xs ++ ys) ≡ tell xs + tell ys) →
    (f : ℕ → Step S) → ((j : ℕ) (c : S) → tell (f j c).1.did ≡ 0) → (j : ℕ) (c : S) → tell (each f j c).1.did ≡ 0
unfolding each
none_row tell nil append f none zero c = nil
none_row tell nil append f none (suc j) c =
    let e = append (each f j c).1.did (f j (each f j c).0).1.did in
    let a : tell (each f j c).1.did ≡ 0 = none_row tell nil append f none j c in
    let b : tell (f j (each f j c).0).1.did ≡ 0 = none j (each f j c).0 in
    omega arith

-- a view that no step of a loop changes
pub each_same : {S V : Type 0} (view : S → V) (f : ℕ → Step S) → ((j : ℕ) (c : S) → view (f j c).0 ≡ view c) → (j : ℕ) (c : S) → view (each f j c).0 ≡ view c
unfolding each
each_same view f one zero c = refl
each_same view f one (suc j) c = one j (each f j c).0 ∙ each_same view f one j c
