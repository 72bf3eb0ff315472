-- Each move of lines keeps caches, messages and directory tidy.
use Rattle.std.proofs.Common.{◌≡◌, ℕ, ◌/◌, Bool, true, false, ◌≢◌, List, refl, arith}
use Rattle.cores.specs.Put.{put}
use Rattle.cached.specs.Coherent.{Asks, Bound, Clear, Fair, Shape, Tidy, view}
use Rattle.directory.specs.Directory.{Entry, Request, busy, fetches, held, idle, nobody, tag, tagged, wants}
use Rattle.cached.specs.Lines.{Lines, asks, fills, grants, lowers, releases, takes, sets}
use Rattle.link.specs.Messages.{Grant, filled, grant, over, quiet}
use Rattle.cache.specs.Slots.{Slot, empty, has, holds, lowered, owns}
use Rattle.cached.proofs.Base.{at_put}

-- what the moves do to what each place has or is about to have
module _ (f : ℕ → Slot) (g : ℕ → Grant) where
  pub take_over : (k p : ℕ) → Bound f k (g k) → over (put g k quiet (p / 64)) p (filled (g k) f p) ≡ over (g (p / 64)) p (f p)
  take_over k p b = grind arith

  pub turn_over : (q p : ℕ) (x : Slot) → Clear (g (q / 64)) q → over (g (p / 64)) p (put f q x p) ≡ put (λ p. over (g (p / 64)) p (f p)) q x p
  turn_over q p x b = grind arith

  pub give_over : (k q p : ℕ) (x : Slot) → q / 64 ≡ k → g k ≡ quiet → over (put g k (grant q x) (p / 64)) p (f p) ≡ put (λ p. over (g (p / 64)) p (f p)) q x p
  give_over k q p x e b = grind arith

  pub clear_view : (q : ℕ) → Clear (g (q / 64)) q → over (g (q / 64)) q (f q) ≡ f q
  clear_view q c = grind arith

-- where the directory differs at one place
put_tag : (e : ℕ → Entry) (v : ℕ → Slot) (q : ℕ) (x : Slot) (p : ℕ) → e p ≡ tag (v p) → put e q (tag x) p ≡ tag (put v q x p)
put_tag e v q x p m = grind arith

put_shape : (n : ℕ) (e : ℕ → Entry) (q : ℕ) (y : Entry) (p : ℕ) → Shape n q y → Shape n p (e p) → Shape n p (put e q y p)
put_shape n e q y p s t = at_put (Shape n p) e q y p (λ i. rw i s) (λ i. t)

-- a core takes a line
take_bound : (f : ℕ → Slot) (g : ℕ → Grant) (k j : ℕ) → Bound f k (g k) → Bound f j (g j) → Bound (filled (g k) f) j (put g k quiet j)
take_bound f g k j b c = grind arith

take_still : (g : ℕ → Grant) (k j : ℕ) → g j ≡ quiet → put g k quiet j ≡ quiet
take_still g k j e = grind arith

take_fair : (n k j : ℕ) (e : ℕ → Entry) (g : ℕ → Grant) (r : Request) → Fair n e g j r → Fair n e (put g k quiet) j r
take_fair n k j e g idle f = tt
take_fair n k j e g (wants a o p s) f = record { mine = f.mine; home = f.home; vacant = f.vacant; lacks = f.lacks; still = take_still g k j f.still }

pub take_tidy : (n k : ℕ) (l : Lines) → Tidy n l → Tidy n (takes k l)
take_tidy n k l t = record {
  mirror = λ p. rw (take_over l.slot l.coming k p (t.bound k)) (t.mirror p);
  bound = λ j. take_bound l.slot l.coming k j (t.bound k) (t.bound j);
  fair = λ j. take_fair n k j l.entry l.coming (l.request j) (t.fair j);
  unheld = t.unheld;
  alone = t.alone;
  shape = t.shape;
}

-- a place is handed back, or may only be read from now on: what it has is less than before
abbrev pub Less : Slot → Slot → Type 0
Less x y = ((a : ℕ) → has y a ≡ false → has x a ≡ false) × (y ≡ empty → x ≡ empty)

turn_bound : (f : ℕ → Slot) (q : ℕ) (x : Slot) (j : ℕ) (g : Grant) → (f q ≡ empty → x ≡ empty) → Bound f j g → Bound (put f q x) j g
turn_bound f q x j g c b = grind arith

turn_vacant : (f : ℕ → Slot) (g : ℕ → Grant) (e : ℕ → Entry) (q : ℕ) (x : Slot) (p : ℕ) → Clear (g (q / 64)) q → (f q ≡ empty → x ≡ empty) → e q ≡ tag (over (g (q / 64)) q (f q)) → e p ≡ nobody →
    put e q (tag x) p ≡ nobody
turn_vacant f g e q x p c s m v = grind arith

turn_held : (f : ℕ → Slot) (g : ℕ → Grant) (e : ℕ → Entry) (q : ℕ) (x : Slot) (p a : ℕ) → Clear (g (q / 64)) q → (has (f q) a ≡ false → has x a ≡ false) → e q ≡ tag (over (g (q / 64)) q (f q)) → held (e p) a ≡ false →
    held (put e q (tag x) p) a ≡ false
turn_held f g e q x p a c s m v = grind arith

module _ (n q : ℕ) (x : Slot) (l : Lines) (c : Clear (l.coming (q / 64)) q) (less : Less x (l.slot q)) (t : Tidy n l) where
  pub turn_fair : (k : ℕ) (r : Request) → Fair n l.entry l.coming k r → Fair n (put l.entry q (tag x)) l.coming k r
  turn_fair k idle f = tt
  turn_fair k (wants a o p s) f = record {
    mine = f.mine;
    home = f.home;
    vacant = turn_vacant l.slot l.coming l.entry q x p c less.1 (t.mirror q) f.vacant;
    lacks = λ r e. turn_held l.slot l.coming l.entry q x r a c (less.0 a) (t.mirror q) (f.lacks r e);
    still = f.still;
  }

  pub turn_tidy : Shape n q (tag x) → Tidy n (sets q x l)
  turn_tidy s = record {
    mirror = λ p. rw (turn_over l.slot l.coming q p x c) (put_tag l.entry (view l) q x p (t.mirror p));
    bound = λ j. turn_bound l.slot q x j (l.coming j) less.1 (t.bound j);
    fair = λ j. turn_fair j (l.request j) (t.fair j);
    unheld = λ k a p f. turn_held l.slot l.coming l.entry q x p a c (less.0 a) (t.mirror q) (t.unheld k a p f);
    alone = t.alone;
    shape = λ p. put_shape n l.entry q (tag x) p s (t.shape p);
  }

less_empty : (y : Slot) → Less empty y
less_empty y = (λ a e. refl, λ e. refl)

less_lowered : (y : Slot) → Less (lowered y) y
less_lowered y = (λ a e. has_lowered y a e, λ e. rw e)
  where
    has_lowered : (y : Slot) (a : ℕ) → has y a ≡ false → has (lowered y) a ≡ false
    has_lowered y a e = grind arith

shape_lowered : (n p : ℕ) (x : Slot) → Shape n p (tag x) → Shape n p (tag (lowered x))
shape_lowered n p empty s = tt
shape_lowered n p (holds a o d w) s = s

pub release_tidy : (n q : ℕ) (l : Lines) → Clear (l.coming (q / 64)) q → Tidy n l → Tidy n (releases q l)
release_tidy n q l c t = turn_tidy n q empty l c (less_empty (l.slot q)) t tt

pub release_fair : (n q k : ℕ) (r : Request) (l : Lines) → Clear (l.coming (q / 64)) q → Tidy n l → Fair n l.entry l.coming k r → Fair n (releases q l).entry l.coming k r
release_fair n q k r l c t f = turn_fair n q empty l c (less_empty (l.slot q)) t k r f

pub lower_tidy : (n q : ℕ) (l : Lines) → Clear (l.coming (q / 64)) q → Tidy n l → Tidy n (lowers q l)
lower_tidy n q l c t = turn_tidy n q (lowered (l.slot q)) l c (less_lowered (l.slot q)) t
    (shape_lowered n q (l.slot q) (rw (← (clear_view l.slot l.coming q c), ← (t.mirror q)) (t.shape q)))

pub lower_fair : (n q k : ℕ) (r : Request) (l : Lines) → Clear (l.coming (q / 64)) q → Tidy n l → Fair n l.entry l.coming k r → Fair n (lowers q l).entry l.coming k r
lower_fair n q k r l c t f = turn_fair n q (lowered (l.slot q)) l c (less_lowered (l.slot q)) t k r f

-- a core is granted a line that it wants
module _ (f : ℕ → Slot) (g : ℕ → Grant) (e : ℕ → Entry) (k q : ℕ) (x : Slot) (mine : q / 64 ≡ k) where
  give_bound : (j : ℕ) → g k ≡ quiet → e q ≡ nobody → e q ≡ tag (over (g (q / 64)) q (f q)) → Bound f j (g j) → Bound f j (put g k (grant q x) j)
  give_bound j still v m b = grind arith

  give_vacant : (j p : ℕ) → j ≢ k → p / 64 ≡ j → e p ≡ nobody → put e q (tag x) p ≡ nobody
  give_vacant j p n m v = grind arith

  give_lacks : (j p a : ℕ) → j ≢ k → p / 64 ≡ j → held (e p) a ≡ false → held (put e q (tag x) p) a ≡ false
  give_lacks j p a n m v = grind arith

  give_still : (j : ℕ) → j ≢ k → g j ≡ quiet → put g k (grant q x) j ≡ quiet
  give_still j n s = grind arith

  give_fair : (n j : ℕ) (r : Request) → j ≢ k → Fair n e g j r → Fair n (put e q (tag x)) (put g k (grant q x)) j r
  give_fair n j idle d s = tt
  give_fair n j (wants a o p st) d s = record {
    mine = s.mine;
    home = s.home;
    vacant = give_vacant j p d s.mine s.vacant;
    lacks = λ r i. give_lacks j r a d i (s.lacks r i);
    still = give_still j d s.still;
  }

give_unheld : (r : ℕ → Request) (e : ℕ → Entry) (k q a : ℕ) (o : Bool) (j b p : ℕ) → busy (r k) a ≡ true →
    (busy (r j) a ≡ true → busy (r k) a ≡ true → j ≡ k) → (fetches (r j) b ≡ true → held (e p) b ≡ false) → fetches (put r k idle j) b ≡ true → held (put e q (tagged a o) p) b ≡ false
give_unheld r e k q a o j b p u al un f = grind arith

give_alone : (r : ℕ → Request) (k i j a : ℕ) → (busy (r i) a ≡ true → busy (r j) a ≡ true → i ≡ j) → busy (put r k idle i) a ≡ true → busy (put r k idle j) a ≡ true → i ≡ j
give_alone r k i j a h u v = grind arith

pub give_tidy : (n k q a : ℕ) (o d : Bool) (w : List ℕ) (l : Lines) → Asks n l.entry l.coming k a q → busy (l.request k) a ≡ true → Tidy n l → Tidy n (grants k q (holds a o d w) l)
give_tidy n k q a o d w l s u t = let x : Slot = holds a o d w in record {
  mirror = λ p. rw (give_over l.slot l.coming k q p x s.mine s.still) (put_tag l.entry (view l) q x p (t.mirror p));
  bound = λ j. give_bound l.slot l.coming l.entry k q x s.mine j s.still s.vacant (t.mirror q) (t.bound j);
  fair = λ j. at_put (Fair n (put l.entry q (tag x)) (put l.coming k (grant q x)) j) l.request k idle j (λ e. tt)
      (λ i. give_fair l.slot l.coming l.entry k q x s.mine n j (l.request j) i (t.fair j));
  unheld = λ j b p f. give_unheld l.request l.entry k q a o j b p u (t.alone j k a) (t.unheld j b p) f;
  alone = λ i j b. give_alone l.request k i j b (t.alone i j b);
  shape = λ p. put_shape n l.entry q (tagged a o) p s.home (t.shape p);
}

-- a core's request, or its stage, is another
ask_alone : (q : ℕ → Request) (k : ℕ) (r : Request) (i j a : ℕ) → (busy r a ≡ true → busy (q i) a ≡ true → i ≡ k) → (busy r a ≡ true → busy (q j) a ≡ true → j ≡ k) →
    (busy (q i) a ≡ true → busy (q j) a ≡ true → i ≡ j) → busy (put q k r i) a ≡ true → busy (put q k r j) a ≡ true → i ≡ j
ask_alone q k r i j a f g h u v = grind arith

pub ask_tidy : (n k : ℕ) (r : Request) (l : Lines) → Fair n l.entry l.coming k r → ((a p : ℕ) → fetches r a ≡ true → held (l.entry p) a ≡ false) →
    ((j a : ℕ) → busy r a ≡ true → busy (l.request j) a ≡ true → j ≡ k) → Tidy n l → Tidy n (asks k r l)
ask_tidy n k r l f un al t = record {
  mirror = t.mirror;
  bound = t.bound;
  fair = λ j. at_put (Fair n l.entry l.coming j) l.request k r j (λ e. rw e f) (λ i. t.fair j);
  unheld = λ j a p. at_put (λ s. fetches s a ≡ true → held (l.entry p) a ≡ false) l.request k r j (λ e. un a p) (λ i. t.unheld j a p);
  alone = λ i j a. ask_alone l.request k r i j a (al i a) (al j a) (t.alone i j a);
  shape = t.shape;
}

-- a store
module _ (f : ℕ → Slot) (g : ℕ → Grant) (e : ℕ → Entry) (q a : ℕ) (w : List ℕ) (own : owns (f q) a ≡ true) where
  fill_mirror : (p : ℕ) → Clear (g (q / 64)) q → e p ≡ tag (over (g (p / 64)) p (f p)) → e p ≡ tag (over (g (p / 64)) p (put f q (holds a true true w) p))
  fill_mirror p c m = grind arith

  fill_bound : (j : ℕ) → Bound f j (g j) → Bound (put f q (holds a true true w)) j (g j)
  fill_bound j b = grind arith

-- nothing is on the way to a place that has something
pub clear_here : (f : ℕ → Slot) (g : Grant) (q a : ℕ) → has (f q) a ≡ true → Bound f (q / 64) g → Clear g q
clear_here f g q a u b = grind arith

pub owns_has : (x : Slot) (a : ℕ) → owns x a ≡ true → has x a ≡ true
owns_has x a u = grind arith

pub fill_tidy : (n q a : ℕ) (w : List ℕ) (l : Lines) → owns (l.slot q) a ≡ true → Tidy n l → Tidy n (fills q a w l)
fill_tidy n q a w l own t = record {
  mirror = λ p. fill_mirror l.slot l.coming l.entry q a w own p (clear_here l.slot (l.coming (q / 64)) q a (owns_has (l.slot q) a own) (t.bound (q / 64))) (t.mirror p);
  bound = λ j. fill_bound l.slot l.coming l.entry q a w own j (t.bound j);
  fair = t.fair;
  unheld = t.unheld;
  alone = t.alone;
  shape = t.shape;
}
