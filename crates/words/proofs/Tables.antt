-- What is read of a place of a table, what writing one leaves, and tables of so many places.
use Rattle.std.proofs.Common.{◌≡◌, ℕ, ◌+◌, ◌-◌, ◌*◌, ◌<◌, ◌≤◌, cond, ltb, List, length, take, drop, sym, refl, ap, ◌∙◌, arith}
use borrow.Rule.Slice.PartMut.{put_mid}
use Rattle.std.proofs.lemmas.Bool.{lt-ltb, cond-true, eq-eqb, ne_eqb, cond-false}
use Rattle.words.specs.Parts.{put, table}
use Rattle.words.proofs.Parts.{part_is, part_here, part_other, apart, put_is}

-- how long the slice of a place is
pub width : (from t n : ℕ) → t ≡ n → from + t - from ≡ n
width from t n e = rw e (omega arith)

module _ {X : Type 0} (size : ℕ) (said : ℕ → List ℕ → X) (w : List ℕ) (k : ℕ) where
  -- the slice of place k
  pub place_read : (r n : ℕ) → r ≡ size → n ≡ size → said k (take n (drop (r * k) w)) ≡ table size said w k
  place_read r n d e = ap (λ s. said k (take n (drop (s * k) w))) d ∙ ap (said k) (part_is (size * k) size n w e)

  -- and once it is written
  pub place_written : (r n : ℕ) (ys : List ℕ) (x : X) → r ≡ size → n ≡ size → length ys ≡ size → size * k + size ≤ length w → said k ys ≡ x →
      table size said (put_mid (r * k) n w ys) ≡ put (table size said w) k x
  place_written r n ys x d e l f g =
      rw (d, e)
      (put_is _ _ k x (ap (said k) (part_here (size * k) size size w ys l f) ∙ g)
      (λ j ne. ap (said j) (part_other (size * j) size (size * k) size w ys l f (apart size k j ne))))

-- of so many places; a place beyond them has `none`
module _ {X : Type 0} (places : ℕ) (none : X) where
  abbrev pub within : (ℕ → X) → ℕ → X
  within f k = cond (ltb k places) (f k) none

  pub within_read : (f : ℕ → X) (k : ℕ) → k < places → f k ≡ within f k
  within_read f k h = sym (cond-true _ _ _ (lt-ltb k places h))

  pub within_written : (f g : ℕ → X) (k : ℕ) (x : X) → k < places → g ≡ put f k x → within g ≡ put (within f) k x
  within_written f g k x h e =
      put_is (within f) (within g) k x
      (cond-true _ _ _ (lt-ltb k places h) ∙ ap (λ (t : ℕ → X). t k) e ∙ cond-true _ _ _ (eq-eqb k k refl))
      (λ j ne. ap (λ (t : ℕ → X). within t j) e ∙ ap (λ x. cond (ltb j places) x none) (cond-false _ _ _ (ne_eqb j k ne)))
