-- One step after another: what they put out together, and a step for one core more.
use Rattle.std.proofs.Common.{◌≡◌, ℕ, zero, suc, ◌+◌, ◌<◌, ◌≤◌, List, [], ◌∷◌, ◌++◌, length, get_or, set, Some, None, Option, sym, refl, ap, ◌∙◌, add-one, arith}
use Rattle.cores.specs.Board.{Out}
use Rattle.cores.specs.Loop.{Step, silent, joined, then, each}
use Rattle.cores.specs.Ports.{somes}
use Rattle.cores.proofs.Basics.{append_nil}

pub joined_silent : (o : Out) → joined o silent ≡ o
joined_silent o = λ i. record { asks = append_nil o.asks i; writes = append_nil o.writes i; says = append_nil o.says i; did = append_nil o.did i }

-- a step, then another
pub then_is : {S : Type 0} (f g : Step S) (h s t : S) (o o' : Out) → (s, o) ≡ f h → (t, o') ≡ g s → (t, joined o o') ≡ then f g h
then_is {S} f g h s t o o' p q =
    ap (λ (r : S × Out). (r.0, joined o r.1)) q ∙ ap (λ (r : S × Out). ((g r.0).0, joined r.1 (g r.0).1)) p

-- the second puts nothing out
pub then_quiet : {S : Type 0} (f g : Step S) (h s t : S) (o : Out) → (s, o) ≡ f h → (t, silent) ≡ g s → (t, o) ≡ then f g h
then_quiet f g h s t o p q = ap (λ x. (t, x)) (sym (joined_silent o)) ∙ then_is f g h s t o silent p q

-- one core more
pub each_more : {S : Type 0} (f : ℕ → Step S) (k : ℕ) (h s t : S) (o o' : Out) → (s, o) ≡ each f k h → (t, o') ≡ f k s → (t, joined o o') ≡ each f (k + 1) h
unfolding each
each_more f k h s t o o' p q = rw add-one (then_is (each f k) (f k) h s t o o' p q)

-- a row of empty places
somes_none : {A B : Type 0} (of : A → B) (l : List (Option A)) → ((j : ℕ) → get_or l j None ≡ None) → somes of l ≡ []
somes_none of [] h = refl
somes_none of (None ∷ l) h = somes_none of l (λ j. h (suc j))
somes_none of (Some x ∷ l) h = let e = h 0 in let z : ◌≡◌ {A = ℕ} 0 1 = cc in absurd (omega arith)

somes_first : {A B : Type 0} (of : A → B) (r : Option A) (l : List (Option A)) → somes of l ≡ [] → somes of (r ∷ l) ≡ somes of (r ∷ [])
somes_first of None l h = h
somes_first {A} {B} of (Some x) l h = ap {B = List B} (λ bs. of x ∷ bs) h

-- a row whose places from k on are empty, after place k was filled
pub somes_set : {A B : Type 0} (of : A → B) (l : List (Option A)) (k : ℕ) (r : Option A) → k < length l → ((j : ℕ) → k ≤ j → get_or l j None ≡ None) →
    somes of (set l k r) ≡ somes of l ++ somes of (r ∷ [])
somes_set of [] k r h o = absurd (omega arith)
somes_set {A} {B} of (x ∷ l) zero r h o =
    somes_first of r l (somes_none of l (λ j. o (suc j) (omega arith)))
    ∙ ap {B = List B} (λ bs. bs ++ somes of (r ∷ [])) (sym (somes_none of (x ∷ l) (λ j. o j (omega arith))))
somes_set of (None ∷ l) (suc k) r h o = somes_set of l k r (omega arith) (λ j g. o (suc j) (omega arith))
somes_set {A} {B} of (Some x ∷ l) (suc k) r h o = ap {B = List B} (λ bs. of x ∷ bs) (somes_set of l k r (omega arith) (λ j g. o (suc j) (omega arith)))
