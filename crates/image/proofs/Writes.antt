-- Words as bytes, one more at a time.
use Rattle.std.proofs.Common.{◌≡◌, ℕ, ◌+◌, ◌*◌, ◌<◌, ◌≤◌, List, [], ◌++◌, length, get_or, take, drop, sym, ap, ◌∙◌, append_assoc, arith}
use borrow.Rule.Slice.PartMut.{put_mid}
use Rattle.std.proofs.lemmas.List.{at_drop_more, at_drop_all, drop-drop, append-nil, take-append-drop}
use Rattle.std.proofs.lemmas.Slice.{take-put_mid, drop-put_mid}
use Rattle.image.specs.Memory.{word_bytes, bytes_of, image}

bytes_more : (words : List ℕ) (i : ℕ) → i < length words → bytes_of (drop i words) ≡ word_bytes (get_or words i 0) ++ bytes_of (drop (i + 1) words)
unfolding bytes_of
bytes_more words i h = at_drop_more bytes_of words i 0 h

bytes_none : (words : List ℕ) (i : ℕ) → length words ≤ i → bytes_of (drop i words) ≡ []
unfolding bytes_of
bytes_none words i h = at_drop_all bytes_of words i h

module _ (words bytes : List ℕ) (i : ℕ) where
  -- one word more is written, and what lies past it is as it was
  pub write_more : (was ys : List ℕ) (k : ℕ) → i < length words → 9 + 4 * i ≤ length bytes → ys ≡ word_bytes (get_or words i 0) → take (9 + 4 * i) bytes ++ bytes_of (drop i words) ≡ was →
      take (9 + 4 * (i + 1)) (put_mid (9 + 4 * i) k bytes ys) ++ bytes_of (drop (i + 1) words) ≡ was
  write_more was ys k h l is inv =
      let n : 9 + 4 * (i + 1) ≡ 9 + 4 * i + length ys = rw is (omega arith) in
      let t : take (9 + 4 * (i + 1)) (put_mid (9 + 4 * i) k bytes ys) ≡ take (9 + 4 * i) bytes ++ ys = take-put_mid (9 + 4 * i) k bytes ys _ n l in
      rw (t, append_assoc, is) (ap (λ (bs : List ℕ). take (9 + 4 * i) bytes ++ bs) (sym (bytes_more words i h)) ∙ inv)

  pub past_more : (was ys : List ℕ) (k : ℕ) → k ≡ 4 → 9 + 4 * i ≤ length bytes → length ys ≡ k → drop (9 + 4 * i) bytes ≡ drop (9 + 4 * i) was →
      drop (9 + 4 * (i + 1)) (put_mid (9 + 4 * i) k bytes ys) ≡ drop (9 + 4 * (i + 1)) was
  past_more was ys k four l n inv =
      let e : 9 + 4 * i + 4 ≡ 9 + 4 * (i + 1) = omega arith in
      drop-put_mid (9 + 4 * i) k bytes ys (9 + 4 * (i + 1)) (omega arith) l n
      ∙ ap (λ (j : ℕ). drop j bytes) (sym e)
      ∙ sym (drop-drop 4 (9 + 4 * i) bytes)
      ∙ ap (λ (bs : List ℕ). drop 4 bs) inv
      ∙ drop-drop 4 (9 + 4 * i) was
      ∙ ap (λ (j : ℕ). drop j was) e

  -- all are written
  pub write_all : (was : List ℕ) → i ≡ length words → take (9 + 4 * i) bytes ++ bytes_of (drop i words) ≡ take 9 was ++ bytes_of words → drop (9 + 4 * i) bytes ≡ drop (9 + 4 * i) was →
      bytes ≡ take 9 was ++ bytes_of words ++ drop (9 + 4 * length words) was
  write_all was e front past =
      let none : bytes_of (drop i words) ≡ [] = bytes_none words i (omega arith) in
      let t : take (9 + 4 * i) bytes ≡ take 9 was ++ bytes_of words = sym (append-nil _) ∙ ap (λ (bs : List ℕ). take (9 + 4 * i) bytes ++ bs) (sym none) ∙ front in
      rw (← e, ← t, ← past, take-append-drop)

-- bytes are written over a part that is as long
pub part_written : (m k : ℕ) (xs ys zs : List ℕ) → ys ≡ zs → k ≡ m → put_mid 9 k xs ys ≡ take 9 xs ++ zs ++ drop (9 + m) xs
part_written m k xs ys zs e f = rw (e, f, drop-drop, append_assoc)

-- a whole memory is written, after its front: m bytes
pub image_written : (cores lines n m : ℕ) (body was bytes end : List ℕ) → n ≡ 9 + m → bytes ≡ image cores lines (drop 9 was) → end ≡ take 9 bytes ++ body ++ drop (9 + m) bytes →
    end ≡ image cores lines body ++ drop n was
image_written cores lines n m body was bytes end e f h =
    let d : drop (9 + m) bytes ≡ drop n was =
    sym (drop-drop m 9 bytes) ∙ ap (λ (bs : List ℕ). drop m (drop 9 bs)) f ∙ drop-drop m 9 was ∙ ap (λ (j : ℕ). drop j was) (sym e) in
    h ∙ rw (d, f)
