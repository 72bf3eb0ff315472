-- Each move of lines keeps them safe: tidy, and coherent with the memory outside and the manual's.
use Rattle.std.proofs.Common.{◌≡◌, ℕ, ◌/◌, Bool, true, false, eqb, List, sym, refl, ap, ◌∙◌, ap₂, arith}
use mathlib.Core.Bool.{false≢true}
use Rattle.cores.specs.Machines.{pick}
use Rattle.cores.specs.Put.{put}
use Rattle.cores.proofs.Basics.{same}
use Rattle.cached.specs.Coherent.{Asks, Bound, Clear, Fair, Safe, Tidy, copies, view}
use Rattle.directory.specs.Directory.{Entry, Request, busy, fetches, held, nobody, owned, tag, wants, probing}
use Rattle.cached.specs.Lines.{Lines, asks, fills, grants, lowers, releases, takes}
use Rattle.link.specs.Messages.{quiet}
use Rattle.cache.specs.Slots.{Slot, dirties, empty, has, holds, lowered, owns, raised}
use Rattle.cached.proofs.Copies.{copy_comes, copy_goes, copy_passes, copy_stores, copy_lowers, written, gain_coherent, go_coherent, lower_coherent, pass_coherent, store_coherent}
use Rattle.cached.proofs.Tidy.{ask_tidy, clear_here, clear_view, fill_tidy, give_over, give_tidy, lower_tidy, owns_has, release_fair, release_tidy, take_over, take_tidy, turn_over}

module _ (m t : ℕ → List ℕ) where
  take_copies : (k : ℕ) (l : Lines) → Bound l.slot k (l.coming k) → copies (takes k l) m t ≡ copies l m t
  take_copies k l b = λ i. record { at = λ p. take_over l.slot l.coming k p b i; memory = m; truth = t }

  give_copies : (k q : ℕ) (x : Slot) (l : Lines) → q / 64 ≡ k → l.coming k ≡ quiet → copies (grants k q x l) m t ≡ copy_comes q x (copies l m t)
  give_copies k q x l e s = λ i. record { at = λ p. give_over l.slot l.coming k q p x e s i; memory = m; truth = t }

  release_copies : (q : ℕ) (l : Lines) → Clear (l.coming (q / 64)) q → copies (releases q l) (written (l.slot q) m) t ≡ copy_goes q (copies l m t)
  release_copies q l c =
      let v : l.slot q ≡ view l q = sym (clear_view l.slot l.coming q c) in
      λ i. record { at = λ p. turn_over l.slot l.coming q p empty c i; memory = written (v i) m; truth = t }

  lower_copies : (q : ℕ) (l : Lines) → Clear (l.coming (q / 64)) q → copies (lowers q l) (written (l.slot q) m) t ≡ copy_lowers q (copies l m t)
  lower_copies q l c =
      let v : l.slot q ≡ view l q = sym (clear_view l.slot l.coming q c) in
      (λ i. record { at = λ p. turn_over l.slot l.coming q p (lowered (l.slot q)) c i; memory = written (v i) m; truth = t })
      ∙ ap (λ (x : Slot). record { at = put (view l) q (lowered x); memory = written (view l q) m; truth = t }) v

  fill_copies : (q a : ℕ) (w : List ℕ) (l : Lines) → Clear (l.coming (q / 64)) q → copies (fills q a w l) m (put t a w) ≡ copy_stores q a w (copies l m t)
  fill_copies q a w l c = λ i. record { at = λ p. turn_over l.slot l.coming q p (holds a true true w) c i; memory = m; truth = put t a w }

  pass_copies : (q k p : ℕ) (l : Lines) → Clear (l.coming (q / 64)) q → p / 64 ≡ k → l.coming k ≡ quiet →
      copies (grants k p (raised (l.slot q)) (releases q l)) m t ≡ copy_passes q p (copies l m t)
  pass_copies q k p l c e s = λ i. record { at = λ r. pass_over r i; memory = m; truth = t }
    where
      pass_over : (r : ℕ) → view (grants k p (raised (l.slot q)) (releases q l)) r ≡ (copy_passes q p (copies l m t)).at r
      pass_over r = give_over (put l.slot q empty) l.coming k p r (raised (l.slot q)) e s
          ∙ ap₂ (λ (x y : Slot). pick (eqb r p) (raised x) y) (sym (clear_view l.slot l.coming q c)) (turn_over l.slot l.coming q r empty c)

-- what the directory says of a place, and what is there
pub tag_has : (x : Slot) (e : Entry) (a : ℕ) → e ≡ tag x → held e a ≡ false → has x a ≡ false
tag_has x e a m f = grind arith

tag_owns : (x : Slot) (e : Entry) (a : ℕ) → e ≡ tag x → owned e a ≡ false → owns x a ≡ false
tag_owns x e a m f = grind arith

pub tag_empty : (x : Slot) (e : Entry) → e ≡ tag x → e ≡ nobody → x ≡ empty
tag_empty x e m f = grind arith

has_owns : (x : Slot) (a : ℕ) → has x a ≡ false → owns x a ≡ false
has_owns x a f = grind arith

has_dirties : (x : Slot) (a : ℕ) → has x a ≡ false → dirties x a ≡ false
has_dirties x a f = grind arith

module _ (n : ℕ) (l : Lines) (m t : ℕ → List ℕ) (s : Safe n l m t) where
  pub take_safe : (k : ℕ) → Safe n (takes k l) m t
  take_safe k = record { tidy = take_tidy n k l s.tidy; coherent = rw (take_copies m t k l (s.tidy.bound k)) s.coherent }

  pub release_safe : (q : ℕ) → Clear (l.coming (q / 64)) q → Safe n (releases q l) (written (l.slot q) m) t
  release_safe q c = record { tidy = release_tidy n q l c s.tidy; coherent = rw (release_copies m t q l c) (go_coherent q (copies l m t) s.coherent) }

  pub lower_safe : (q : ℕ) → Clear (l.coming (q / 64)) q → Safe n (lowers q l) (written (l.slot q) m) t
  lower_safe q c = record { tidy = lower_tidy n q l c s.tidy; coherent = rw (lower_copies m t q l c) (lower_coherent q (copies l m t) s.coherent) }

  pub ask_safe : (k : ℕ) (r : Request) → Fair n l.entry l.coming k r → ((a p : ℕ) → fetches r a ≡ true → held (l.entry p) a ≡ false) →
      ((j a : ℕ) → busy r a ≡ true → busy (l.request j) a ≡ true → j ≡ k) → Safe n (asks k r l) m t
  ask_safe k r f un al = record { tidy = ask_tidy n k r l f un al s.tidy; coherent = s.coherent }

  pub fill_safe : (q a : ℕ) (w : List ℕ) → owns (l.slot q) a ≡ true → Safe n (fills q a w l) m (put t a w)
  fill_safe q a w own = record {
    tidy = fill_tidy n q a w l own s.tidy;
    coherent = rw (fill_copies m t q a w l clear) (store_coherent q a w (copies l m t) (rw (clear_view l.slot l.coming q clear) own) s.coherent);
  }
    where
      clear : Clear (l.coming (q / 64)) q
      clear = clear_here l.slot (l.coming (q / 64)) q a (owns_has (l.slot q) a own) (s.tidy.bound (q / 64))

  -- a line that nobody has, from memory
  pub own_safe : (k q a : ℕ) (w : List ℕ) → Asks n l.entry l.coming k a q → busy (l.request k) a ≡ true → ((p : ℕ) → held (l.entry p) a ≡ false) → w ≡ m a →
      Safe n (grants k q (holds a true false w) l) m t
  own_safe k q a w f u z e = record {
    tidy = give_tidy n k q a true false w l f u s.tidy;
    coherent = rw (give_copies m t k q (holds a true false w) l f.mine f.still)
        (gain_coherent q a true false w (copies l m t) s.coherent (tag_empty (view l q) (l.entry q) (s.tidy.mirror q) f.vacant) (e ∙ s.coherent.stored a (λ p. has_dirties (view l p) a (none p)))
        (λ i. refl) (λ p. has_owns (view l p) a (none p)) (λ p o. none p) (λ p o. none p));
  }
    where
      none : (p : ℕ) → has (view l p) a ≡ false
      none p = tag_has (view l p) (l.entry p) a (s.tidy.mirror p) (z p)

  -- a line that nobody owns, to read
  pub share_safe : (k q a : ℕ) (w : List ℕ) → Asks n l.entry l.coming k a q → busy (l.request k) a ≡ true → ((p : ℕ) → owned (l.entry p) a ≡ false) → w ≡ t a →
      Safe n (grants k q (holds a false false w) l) m t
  share_safe k q a w f u z e = record {
    tidy = give_tidy n k q a false false w l f u s.tidy;
    coherent = rw (give_copies m t k q (holds a false false w) l f.mine f.still)
        (gain_coherent q a false false w (copies l m t) s.coherent (tag_empty (view l q) (l.entry q) (s.tidy.mirror q) f.vacant) e
        (λ i. refl) (λ p. tag_owns (view l p) (l.entry p) a (s.tidy.mirror p) (z p)) (λ p o. absurd (false≢true o)) (λ p o. tag_has (view l p) (l.entry p) a (s.tidy.mirror p) (f.lacks p (o ∙ f.mine))));
  }

  -- what place q hands back goes on to core k, which wants it
  pass_alone : (e : Entry) (x y : Slot) (q a r b : ℕ) → has x a ≡ true → (eqb r q ≡ false → held e a ≡ false) → e ≡ tag y → has x b ≡ true → has y b ≡ true → r ≡ q
  pass_alone e x y q a r b u f m v w = grind arith

  raised_tidy : (k p a : ℕ) (x : Slot) (l : Lines) → has x a ≡ true → Asks n l.entry l.coming k a p → busy (l.request k) a ≡ true → Tidy n l → Tidy n (grants k p (raised x) l)
  raised_tidy k p a empty l u f b t = absurd (false≢true u)
  raised_tidy k p a (holds c o d w) l u f b t = rw (same c a u) (give_tidy n k p a true d w l f b t)

  pub pass_safe : (q k p a : ℕ) (o : Bool) → Clear (l.coming (q / 64)) q → has (l.slot q) a ≡ true → Asks n l.entry l.coming k a p → busy (l.request k) a ≡ true →
      ((r : ℕ) → eqb r q ≡ false → held (l.entry r) a ≡ false) → Safe n (grants k p (raised (l.slot q)) (releases q l)) m t
  pass_safe q k p a o c u f b z = record {
    tidy = raised_tidy k p a (l.slot q) (releases q l) u (release_fair n q k (wants a o p probing) l c s.tidy f) b (release_tidy n q l c s.tidy);
    coherent = rw (pass_copies m t q k p l c f.mine f.still)
        (pass_coherent q p (copies l m t) (tag_empty (view l p) (l.entry p) (s.tidy.mirror p) f.vacant) s.coherent
        (λ r b. pass_alone (l.entry r) (view l q) (view l r) q a r b (rw (clear_view l.slot l.coming q c) u) (z r) (s.tidy.mirror r)));
  }
