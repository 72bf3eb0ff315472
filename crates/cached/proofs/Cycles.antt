-- The steps of a cycle, one after another: what the cores say and do, whom they ask, and the turn.
use Rattle.std.proofs.Common.{◌≡◌, ℕ, zero, suc, ◌+◌, ◌-◌, ◌*◌, ◌<◌, ◌≤◌, Bool, true, false, cond, ◌||◌, eqb, ltb, ◌≢◌, List, [], ◌∷◌, ◌++◌, length, get_or, set, replicate, Some, None, Option, sym, refl, ap, ◌∙◌, inl, inr, add-one, ◌==◌, arith}
use mathlib.Core.Path.{fun_ext}
use borrow.Rule.Slice.PartMut.{put_mid}
use Rattle.std.specs.List.{list_any}
use Rattle.std.proofs.lemmas.List.{get_or-set_same, get_or-set_other}
use Rattle.std.proofs.lemmas.Bool.{cases_eq, cases_lt, lt-ltb, le-ltb, eq-eqb, ne_eqb, cond-true, cond-false}
use Rattle.cores.specs.Board.{Out}
use Rattle.cores.specs.Loop.{Step, silent, joined, then, each}
use Rattle.cores.specs.Machines.{pick}
use Rattle.cores.specs.Ports.{event_of, line_of, said_at, somes}
use Rattle.cores.specs.Put.{put}
use Rattle.cores.specs.declared.port.Event.{Event}
use Rattle.cores.specs.declared.port.Event.TheVariants as port
use Rattle.cores.specs.declared.port.Line.{Line}
use Rattle.cores.proofs.Basics.{append_nil}
use Rattle.words.specs.Parts.{part}
use Rattle.link.specs.Messages.{Probe}
use Rattle.link.proofs.Rows.{unasked_beyond}
use Rattle.directory.specs.Directory.{question}
use Rattle.directory.proofs.Tables.{all_asked}
use Rattle.cached.specs.Layout.{shared, state_of, with_asked}
use Rattle.cached.specs.Puts.{Says, acted, all_acted, all_writes, is_step, only_asks, said_first}
use Rattle.cached.specs.Rv.{rv}
use Rattle.cached.specs.Soc.{State, act, answer_probe, around, body, can_start, cycle, deliver, next_start, start_next, stepped, take_due, turn_after, with_hints, with_turn}
use Rattle.cached.specs.declared.control.Acted.{Acted}
use Rattle.cached.specs.declared.control.Control.{Control}
use Rattle.cached.proofs.Sequence.{then_is, each_more, somes_set}

-- an instruction of core k is among events
pub any_step : (k : ℕ) (es : List (Option Event)) → list_any (is_step k) es ≡ stepped k (somes event_of es)
unfolding stepped
any_step k [] = refl
any_step k (None ∷ es) = any_step k es
any_step k (Some (port.Step j) ∷ es) = ap (λ b. j == k || b) (any_step k es)
any_step k (Some (port.Interrupt j) ∷ es) = any_step k es

-- two rows, one after the other
pub somes_append : {A B : Type 0} (of : A → B) (xs ys : List (Option A)) → somes of (xs ++ ys) ≡ somes of xs ++ somes of ys
somes_append of [] ys = refl
somes_append of (None ∷ xs) ys = somes_append of xs ys
somes_append {A} {B} of (Some x ∷ xs) ys = ap {B = List B} (λ bs. of x ∷ bs) (somes_append of xs ys)

pub both_rows : (xs ys : List (Option Line)) → length xs ≡ 4 → somes line_of (put_mid 4 4 (xs ++ None ∷ None ∷ None ∷ None ∷ []) ys) ≡ somes line_of xs ++ somes line_of ys
both_rows [] ys e = absurd (omega arith)
both_rows (a ∷ []) ys e = absurd (omega arith)
both_rows (a ∷ b ∷ []) ys e = absurd (omega arith)
both_rows (a ∷ b ∷ c ∷ []) ys e = absurd (omega arith)
both_rows (a ∷ b ∷ c ∷ d ∷ []) ys e = ap (λ zs. somes line_of (a ∷ b ∷ c ∷ d ∷ zs)) (append_nil ys) ∙ somes_append line_of (a ∷ b ∷ c ∷ d ∷ []) ys
both_rows (a ∷ b ∷ c ∷ d ∷ f ∷ xs) ys e = absurd (omega arith)

-- the words of a core that says one, or none
module _ (w : List ℕ) (k : ℕ) (h : k < 4) (l : length w ≡ 8) where
  away : (m x : ℕ) → m ≢ 2 * k → m ≢ 2 * k + 1 → get_or (set (set w (2 * k) 1) (2 * k + 1) x) m 0 ≡ get_or w m 0
  away m x p q = get_or-set_other (set w (2 * k) 1) (2 * k + 1) m x 0 q ∙ get_or-set_other w (2 * k) m 1 0 p

  pub says_word : (x : ℕ) → Says k (Some x) w (set (set w (2 * k) 1) (2 * k + 1) x)
  says_word x =
      let v : List ℕ = set w (2 * k) 1 in
      let u : length v ≡ 8 = lib.ListN.length-set w (2 * k) 1 ∙ l in
      let far : 2 * k ≢ 2 * k + 1 = omega arith in
      let a : get_or (set v (2 * k + 1) x) (2 * k) 0 ≡ 1 = get_or-set_other v (2 * k + 1) (2 * k) x 0 far ∙ get_or-set_same w (2 * k) 1 0 (omega arith) in
      let b : get_or (set v (2 * k + 1) x) (2 * k + 1) 0 ≡ x = get_or-set_same v (2 * k + 1) x 0 (omega arith) in
      record {
        here = λ i. cond (eqb (a i) 0) [] ((k, b i) ∷ []);
        others = λ j ne.
            let p : 2 * j ≢ 2 * k = omega arith in
            let q : 2 * j ≢ 2 * k + 1 = omega arith in
            let r : 2 * j + 1 ≢ 2 * k = omega arith in
            let t : 2 * j + 1 ≢ 2 * k + 1 = omega arith in
            λ i. cond (eqb (away (2 * j) x p q i) 0) [] ((j, away (2 * j + 1) x r t i) ∷ []);
      }

  pub says_none : Says k None w (set w (2 * k) 0)
  says_none =
      let a : get_or (set w (2 * k) 0) (2 * k) 0 ≡ 0 = get_or-set_same w (2 * k) 0 0 (omega arith) in
      record {
        here = ap (λ x. cond (eqb x 0) [] ((k, get_or (set w (2 * k) 0) (2 * k + 1) 0) ∷ [])) a;
        others = λ j ne.
            let p : 2 * j ≢ 2 * k = omega arith in
            let r : 2 * j + 1 ≢ 2 * k = omega arith in
            λ i. cond (eqb (get_or-set_other w (2 * k) (2 * j) 0 0 p i) 0) [] ((j, get_or-set_other w (2 * k) (2 * j + 1) 0 0 r i) ∷ []);
      }

first_same : (k : ℕ) (v w : List ℕ) → ((j : ℕ) → j < k → said_at w j ≡ said_at v j) → said_first k w ≡ said_first k v
first_same zero v w h = refl
first_same (suc k) v w h = λ i. first_same k v w (λ j l. h j (omega arith)) i ++ h k (omega arith) i

pub said_more : (k : ℕ) (word : Option ℕ) (v w : List ℕ) → Says k word v w → said_first (k + 1) w ≡ said_first k v ++ somes (λ x. (k, x)) (word ∷ [])
said_more k word v w s = rw add-one (λ i. first_same k v w (λ j l. s.others j (omega arith)) i ++ s.here i)

-- one core more has acted
pub acted_more : (f : ℕ → Step (State rv)) (k : ℕ) (h s t : State rv) (ws : List (Option Line)) (es : List (Option Event)) (ss ss' : List (ℕ × ℕ)) (a : Acted) →
    (s, all_acted ws ss es) ≡ each f k h → (t, acted k a) ≡ f k s → k < length ws → k < length es →
    ((j : ℕ) → k ≤ j → get_or ws j None ≡ None) → ((j : ℕ) → k ≤ j → get_or es j None ≡ None) → ss' ≡ ss ++ somes (λ x. (k, x)) (a.said ∷ []) →
    (t, all_acted (set ws k a.wrote) ss' (set es k a.did)) ≡ each f (k + 1) h
acted_more f k h s t ws es ss ss' a p q l m u v e =
    (λ i. (t, record { asks = []; writes = somes_set line_of ws k a.wrote l u i; says = e i; did = somes_set event_of es k a.did m v i }))
    ∙ each_more f k h s t (all_acted ws ss es) (acted k a) p q

pub none_after : {A : Type 0} (l : List (Option A)) (k : ℕ) (r : Option A) → ((j : ℕ) → k ≤ j → get_or l j None ≡ None) → (j : ℕ) → k + 1 ≤ j → get_or (set l k r) j None ≡ None
none_after l k r o j h = let ne : j ≢ k = omega arith in get_or-set_other l k j r None ne ∙ o j (omega arith)

pub empty_row : {A : Type 0} (n j : ℕ) → get_or {A = Option A} (replicate n None) j None ≡ None
empty_row zero j = refl
empty_row (suc n) zero = refl
empty_row (suc n) (suc j) = empty_row n j

-- a whole cycle
pub cycle_is : (xs : List (ℕ × List ℕ)) (up : ℕ → Bool) (h h₁ h₂ h₃ h₄ h₅ h₆ : State rv) (bs ws : List (Option Line)) (ss : List (ℕ × ℕ)) (es : List (Option Event)) (a : Option ℕ) (rows : List (ℕ × List ℕ)) →
    (h₁, silent) ≡ deliver rv xs h → (h₂, silent) ≡ each (take_due rv) 4 h₁ → (h₃, all_writes bs) ≡ each (answer_probe rv) 4 h₂ →
    (h₄, all_acted ws ss es) ≡ each (act rv up) 4 h₃ → (h₅, only_asks a) ≡ start_next rv h₄ →
    h₆ ≡ with_hints rv (with_turn (turn_after rv (somes event_of es) h₅) h₅.hints) h₅ → rows ≡ somes line_of bs ++ somes line_of ws →
    (h₆, record { asks = somes (λ x. x) (a ∷ []); writes = rows; says = ss; did = somes event_of es }) ≡ cycle rv h xs up
unfolding cycle
cycle_is xs up h h₁ h₂ h₃ h₄ h₅ h₆ bs ws ss es a rows p₁ p₂ p₃ p₄ p₅ p₆ e =
    let q₄ = then_is (each (act rv up) 4) (start_next rv) h₃ h₄ h₅ (all_acted ws ss es) (only_asks a) p₄ p₅ in
    let q₃ = then_is (each (answer_probe rv) 4) (then (each (act rv up) 4) (start_next rv)) h₂ h₃ h₅ (all_writes bs) _ p₃ q₄ in
    let q₂ = then_is (each (take_due rv) 4) (then (each (answer_probe rv) 4) (then (each (act rv up) 4) (start_next rv))) h₁ h₂ h₅ silent _ p₂ q₃ in
    let q₁ : (h₅, joined (all_writes bs) (joined (all_acted ws ss es) (only_asks a))) ≡ body rv xs up h = then_is (deliver rv xs) (then (each (take_due rv) 4) (then (each (answer_probe rv) 4) (then (each (act rv up) 4) (start_next rv)))) h h₁ h₅ silent _ p₁ q₂ in
    let o : ◌≡◌ {A = Out} (record { asks = somes (λ x. x) (a ∷ []); writes = rows; says = ss; did = somes event_of es }) (joined (all_writes bs) (joined (all_acted ws ss es) (only_asks a))) =
    λ i. record {
      asks = somes (λ x. x) (a ∷ []);
      writes = (e ∙ ap (λ zs. somes line_of bs ++ zs) (sym (append_nil (somes line_of ws)))) i;
      says = sym (append_nil ss) i;
      did = sym (append_nil (somes event_of es)) i;
    } in
    (λ i. (p₆ i, record { asks = somes (λ x. x) (a ∷ []); writes = rows; says = ss; did = somes event_of es }))
    ∙ (λ i. (with_hints rv (with_turn (turn_after rv (o i).did h₅) h₅.hints) h₅, o i))
    ∙ ap (λ (r : State rv × Out). (with_hints rv (with_turn (turn_after rv r.1.did r.0) r.0.hints) r.0, r.1)) q₁

-- one core more is asked
pub asks_more : (h s t : State rv) (a j : ℕ) (o : Bool) (x : Probe) → s ≡ with_asked h (λ i. pick (ltb i j) (question h.lines.entry a o i) (h.hints.probe i)) →
    x ≡ question s.lines.entry a o j → t ≡ with_asked s (put s.hints.probe j x) →
    t ≡ with_asked h (λ i. pick (ltb i (j + 1)) (question h.lines.entry a o i) (h.hints.probe i))
asks_more h s t a j o x p q r =
    r ∙ ap (λ v. with_asked s (put s.hints.probe j v)) q
    ∙ ap (λ (v : State rv). with_asked v (put v.hints.probe j (question v.lines.entry a o j))) p
    ∙ ap (with_asked h) (fun_ext same)
  where
    same : (i : ℕ) → put (λ i. pick (ltb i j) (question h.lines.entry a o i) (h.hints.probe i)) j (question h.lines.entry a o j) i
        ≡ pick (ltb i (j + 1)) (question h.lines.entry a o i) (h.hints.probe i)
    same i =
        elim (cases_eq i j) [
          | inl e ↦ rw e (cond-true _ _ _ (eq-eqb j j refl) ∙ sym (cond-true _ _ _ (lt-ltb j (j + 1) (omega arith))))
          | inr ne ↦ cond-false _ _ _ (ne_eqb i j ne) ∙ ap (λ b. pick b (question h.lines.entry a o i) (h.hints.probe i)) (step i ne)
        ]
      where
        step : (i : ℕ) → (i ≡ j → ⊥) → ltb i j ≡ ltb i (j + 1)
        step i ne = elim (cases_lt i j) [ inl l ↦ lt-ltb i j l ∙ sym (lt-ltb i (j + 1) (omega arith)) | inr g ↦ le-ltb i j g ∙ sym (le-ltb i (j + 1) (omega arith)) ]

pub asks_none : (h : State rv) (a : ℕ) (o : Bool) → h ≡ with_asked h (λ i. pick (ltb i 0) (question h.lines.entry a o i) (h.hints.probe i))
asks_none h a o = ap (with_asked h) (fun_ext (λ i. sym (cond-false (ltb i 0) (question h.lines.entry a o i) (h.hints.probe i) (le-ltb i 0 (omega arith)))))

-- all four are: nobody else is asked anything
pub asks_all : (w : List ℕ) (a : ℕ) (o : Bool) → (λ i. pick (ltb i 4) (question (state_of w).lines.entry a o i) ((state_of w).hints.probe i)) ≡ question (state_of w).lines.entry a o
unfolding state_of
asks_all w a o =
    all_asked (part 237 512 w) a o (λ i. pick (ltb i 4) (question (state_of w).lines.entry a o i) ((state_of w).hints.probe i))
    (λ j l. cond-true _ _ _ (lt-ltb j 4 l)) (λ j g. cond-false _ _ _ (le-ltb j 4 g) ∙ unasked_beyond (part 205 12 w) j g)

around_small : (n t : ℕ) → n ≤ 4 → around n t < 4
around_small n t h = elim (cases_lt t n) [ inl l ↦ rw (lt-ltb t n l) (omega arith) | inr g ↦ rw (le-ltb t n g) (omega arith) ]

-- the first core of n, from core t on, whose request can be started; or the one after them
abbrev next_from : State rv → ℕ → ℕ → ℕ
next_from h zero t = t
next_from h (suc n) t = pick (can_start rv h t) t (next_from h n (around h.count (suc t)))

-- i cores have been asked, and core t is the next in the order of their turns
abbrev pub Looking : State rv → ℕ → ℕ → Type 0
Looking h i t = (t < 4) × ((n : ℕ) → n + i ≡ 3 → next_from h n t ≡ next_start rv h)

pub looking_first : (h : State rv) (s : Control) → s ≡ shared h → s.turn < 4 → Looking h 0 s.turn
looking_first h s e l = (l, λ n m. let three : n ≡ 3 = omega arith in ap (λ i. next_from h i s.turn) three ∙ ap (λ (c : Control). next_from h 3 c.turn) e)

pub looking_next : (h : State rv) (i t u : ℕ) (s : Control) → s ≡ shared h → s.count ≤ 4 → can_start rv h t ≡ false → u ≡ around s.count (t + 1) → Looking h i t → Looking h (i + 1) u
looking_next h i t u s e m none p l = (
  rw p (around_small s.count (t + 1) m),
  λ n r. ap (next_from h n) (p ∙ (λ j. around (e j).count (add-one t j))) ∙ sym (cond-false _ _ _ none) ∙ l.1 (suc n) (omega arith),
)

pub looking_found : (h : State rv) (i t : ℕ) → i < 3 → can_start rv h t ≡ true → Looking h i t → t ≡ next_start rv h
looking_found h i t m e l = sym (cond-true _ _ _ e) ∙ l.1 (suc (2 - i)) (omega arith)
