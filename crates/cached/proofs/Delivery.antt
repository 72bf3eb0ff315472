-- What happens to each core's request and to what is on its way to it, in the first two parts of a cycle: lines come, and are taken.
use Rattle.std.proofs.Common.{◌≡◌, ℕ, zero, suc, ◌/◌, ◌<◌, Bool, true, false, ◌||◌, eqb, ◌≢◌, ◌⊎◌, List, [], ◌∷◌, sym, refl, ap, ◌∙◌, subst, inl, inr, arith}
use Rattle.cores.specs.Machines.{pick}
use Rattle.cores.proofs.Basics.{choose, same}
use Rattle.cached.specs.Coherent.{Bound}
use Rattle.directory.specs.Directory.{Request, fetches, fetching, idle, probing, queued, wants}
use Rattle.cached.specs.Lines.{Lines, deliver_all, deliver_one, delivered}
use Rattle.link.specs.Messages.{Grant, filled, grant, quiet}
use Rattle.cached.specs.Rank.{given}
use Rattle.cache.specs.Slots.{Slot, holds}
use Rattle.cached.proofs.Base.{at_put, clash, eqb_self}
use Rattle.cached.proofs.Facts.{not_wants}

-- a core's request and what is on its way: as before, or the line that was fetched has come
abbrev pub Came : Request → Grant → Request → Grant → Type 0
Came q g r h = ((r ≡ q) × (h ≡ g)) ⊎ ((a p : ℕ) × (o : Bool) × (v : List ℕ) × (q ≡ wants a o p fetching) × (r ≡ idle) × (h ≡ grant p (holds a true false v)))

came_then : (q r s : Request) (g h i : Grant) → Came q g r h → Came r h s i → Came q g s i
came_then q r s g h i (inl x) (inl y) = inl (y.0 ∙ x.0, y.1 ∙ x.1)
came_then q r s g h i (inl x) (inr y) = inr (y.0, y.1, y.2, y.3, sym x.0 ∙ y.4, y.5, y.6)
came_then q r s g h i (inr x) (inl y) = inr (x.0, x.1, x.2, x.3, x.4, y.0 ∙ x.5, y.1 ∙ x.6)
came_then q r s g h i (inr x) (inr y) = not_wants y.0 y.1 y.2 fetching (sym x.5 ∙ y.4)

pub came_fetches : (q r : Request) (g h : Grant) (a : ℕ) → Came q g r h → fetches r a ≡ true → fetches q a ≡ true
came_fetches q r g h a (inl x) f = rw (← x.0) f
came_fetches q r g h a (inr x) f = clash f (rw x.5)

delivered_came : (k a : ℕ) (w : List ℕ) (l : Lines) (i : ℕ) → Came (l.request i) (l.coming i) ((delivered k a w (l.request k) l).request i) ((delivered k a w (l.request k) l).coming i)
delivered_came k a w l i = go (l.request k) refl
  where
    go : (r : Request) → l.request k ≡ r → Came (l.request i) (l.coming i) ((delivered k a w r l).request i) ((delivered k a w r l).coming i)
    go idle e = inl (refl, refl)
    go (wants b o p queued) e = inl (refl, refl)
    go (wants b o p probing) e = inl (refl, refl)
    go (wants b o p fetching) e = choose (λ (x : Lines). Came (l.request i) (l.coming i) (x.request i) (x.coming i)) (eqb b a) _ _ (λ u. split (eqb i k) refl) (λ u. inl (refl, refl))
      where
        split : (z : Bool) → eqb i k ≡ z → Came (l.request i) (l.coming i) (pick z idle (l.request i)) (pick z (grant p (holds b true false w)) (l.coming i))
        split true j = inr (b, p, o, w, rw (same i k j) e, refl, refl)
        split false j = inl (refl, refl)

delivered_clears : (k a : ℕ) (w : List ℕ) (l : Lines) → fetches ((delivered k a w (l.request k) l).request k) a ≡ false
delivered_clears k a w l = go (l.request k) refl
  where
    go : (r : Request) → l.request k ≡ r → fetches ((delivered k a w r l).request k) a ≡ false
    go idle e = rw e
    go (wants b o p queued) e = rw e
    go (wants b o p probing) e = rw e
    go (wants b o p fetching) e = choose (λ (x : Lines). fetches (x.request k) a ≡ false) (eqb b a) _ _ (λ u. rw (eqb_self k)) (λ u. rw e u)

one_came : (n a : ℕ) (w : List ℕ) (l : Lines) (i : ℕ) → Came (l.request i) (l.coming i) ((deliver_one n a w l).request i) ((deliver_one n a w l).coming i)
unfolding deliver_one
one_came zero a w l i = inl (refl, refl)
one_came (suc n) a w l i = came_then _ _ _ _ _ _ (one_came n a w l i) (delivered_came n a w (deliver_one n a w l) i)

clears_step : (n a : ℕ) (w : List ℕ) (l : Lines) (i : ℕ) → (i < n → fetches (l.request i) a ≡ false) → i < suc n → (z : Bool) → eqb i n ≡ z → fetches ((delivered n a w (l.request n) l).request i) a ≡ false
clears_step n a w l i ih h true j = rw (same i n j) (delivered_clears n a w l)
clears_step n a w l i ih h false j = go (fetches ((delivered n a w (l.request n) l).request i) a) refl
  where
    below : i < n
    below = grind arith

    go : (x : Bool) → fetches ((delivered n a w (l.request n) l).request i) a ≡ x → x ≡ false
    go true f = clash (came_fetches _ _ _ _ a (delivered_came n a w l i) f) (ih below)
    go false f = refl

one_clears : (n a : ℕ) (w : List ℕ) (l : Lines) (i : ℕ) → i < n → fetches ((deliver_one n a w l).request i) a ≡ false
unfolding deliver_one
one_clears zero a w l i h = absurd (omega arith)
one_clears (suc n) a w l i h = clears_step n a w (deliver_one n a w l) i (one_clears n a w l i) h (eqb i n) refl

pub all_came : (n : ℕ) (xs : List (ℕ × List ℕ)) (l : Lines) (i : ℕ) → Came (l.request i) (l.coming i) ((deliver_all n xs l).request i) ((deliver_all n xs l).coming i)
unfolding deliver_all
all_came n [] l i = inl (refl, refl)
all_came n (x ∷ xs) l i = came_then _ _ _ _ _ _ (one_came n x.0 x.1 l i) (all_came n xs (deliver_one n x.0 x.1 l) i)

pub all_given : (n : ℕ) (xs : List (ℕ × List ℕ)) (l : Lines) (i a : ℕ) → i < n → fetches ((deliver_all n xs l).request i) a ≡ true → given a xs ≡ false
unfolding deliver_all given
all_given n [] l i a h f = refl
all_given n (x ∷ xs) l i a h f = split (all_given n xs (deliver_one n x.0 x.1 l) i a h f) (eqb x.0 a) refl
  where
    split : given a xs ≡ false → (z : Bool) → eqb x.0 a ≡ z → (z || given a xs) ≡ false
    split ih true j = clash (came_fetches _ _ _ _ a (all_came n xs (deliver_one n x.0 x.1 l) i) f) (subst (λ (b : ℕ). fetches ((deliver_one n x.0 x.1 l).request i) b ≡ false) (same x.0 a j) (one_clears n x.0 x.1 l i h))
    split ih false j = ih

delivered_slot : (k a : ℕ) (w : List ℕ) (l : Lines) → (delivered k a w (l.request k) l).slot ≡ l.slot
delivered_slot k a w l = go (l.request k)
  where
    go : (r : Request) → (delivered k a w r l).slot ≡ l.slot
    go idle = refl
    go (wants b o p queued) = refl
    go (wants b o p probing) = refl
    go (wants b o p fetching) = choose (λ (x : Lines). x.slot ≡ l.slot) (eqb b a) _ _ (λ u. refl) (λ u. refl)

one_slot : (n a : ℕ) (w : List ℕ) (l : Lines) → (deliver_one n a w l).slot ≡ l.slot
unfolding deliver_one
one_slot zero a w l = refl
one_slot (suc n) a w l = delivered_slot n a w (deliver_one n a w l) ∙ one_slot n a w l

pub all_slot : (n : ℕ) (xs : List (ℕ × List ℕ)) (l : Lines) → (deliver_all n xs l).slot ≡ l.slot
unfolding deliver_all
all_slot n [] l = refl
all_slot n (x ∷ xs) l = all_slot n xs (deliver_one n x.0 x.1 l) ∙ one_slot n x.0 x.1 l

-- a line that is taken goes to a place of the core that takes it
pub filled_other : (g : Grant) (f : ℕ → Slot) (k p : ℕ) → Bound f k g → p / 64 ≢ k → filled g f p ≡ f p
filled_other quiet f k p b n = refl
filled_other (grant q y) f k p b n = at_put (λ z. z ≡ f p) f q y p (λ i. absurd (n (ap (λ (z : ℕ). z / 64) i ∙ b.0))) (λ i. refl)
