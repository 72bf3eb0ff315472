-- The front of a memory: what is taken, and which fault refuses.
use Rattle.std.proofs.Common.{◌≡◌, ℕ, suc, ◌+◌, ◌*◌, ◌/◌, ◌%◌, ◌<◌, ◌≤◌, Bool, true, false, cond, not, ◌&&◌, eqb, ltb, leb, List, [], ◌∷◌, length, get_or, drop, Ok, Err, Result, sym, refl, ap, ◌∙◌, inl, inr, mod-eq_of_lt, arith}
use native.Mathlib.Nat.{div-div-eq-div-mul}
use Rattle.std.proofs.lemmas.Nat.{div-add-mod', div_below}
use Rattle.std.proofs.lemmas.List.{drop_more}
use Rattle.std.proofs.lemmas.Bool.{ltb-false, le-ltb, eqb-true, eq-eqb, or_cases, or_parts, or_from, or_right, and_parts, and_from, not-false, not_from_true, cond-false, true≢false, not-true, both_ways, leb-true, ltb-true, cond_both}
use Rattle.image.specs.Memory.{word, word_at, may_be, letters, outside, size, header_rule, header_of, Fits, word_bytes, words_of, bytes_of, image}
use Rattle.image.specs.MemoryLaws.{Word, AllImagesAreTaken, OnlyImagesAreTaken, Faulty, Before, Judged, LowestFaultRefuses, WrittenIsRead}
use Rattle.image.specs.Refusals.{place}
use Rattle.image.specs.declared.memory.Header.{Header}
use Rattle.image.specs.declared.refusal.Refusal.{Refusal}
use Rattle.image.specs.declared.refusal.Refusal.TheVariants.{MemoryEnds, MemoryGoesOn, NoMagic, Cores, Lines, Choices, Lent}
use Rattle.image.proofs.Words.{drop_four}

-- bytes that pass every test
taken : (bytes : List ℕ) → letters bytes ≡ true → 1 ≤ get_or bytes 4 0 → get_or bytes 4 0 ≤ 4 → 1 ≤ word_at bytes 5 → word_at bytes 5 ≤ 65536 → length bytes ≡ size (word_at bytes 5) →
    header_rule bytes ≡ Ok (record { cores = get_or bytes 4 0; lines = word_at bytes 5 })
taken bytes l a b c d e =
    cond-false _ _ _ (not_from_true _ l)
    ∙ cond-false _ _ _ (le-ltb (length bytes) 5 (omega arith))
    ∙ cond-false _ _ _ (or_from _ _ (le-ltb (get_or bytes 4 0) 1 a) (le-ltb 4 (get_or bytes 4 0) b))
    ∙ cond-false _ _ _ (le-ltb (length bytes) 9 (omega arith))
    ∙ cond-false _ _ _ (or_from _ _ (le-ltb (word_at bytes 5) 1 c) (le-ltb 65536 (word_at bytes 5) d))
    ∙ cond-false _ _ _ (le-ltb (length bytes) (size (word_at bytes 5)) (omega arith))
    ∙ cond-false _ _ _ (le-ltb (size (word_at bytes 5)) (length bytes) (omega arith))

letters_from : (bytes : List ℕ) → get_or bytes 0 0 ≡ 67 → get_or bytes 1 0 ≡ 72 → get_or bytes 2 0 ≡ 73 → get_or bytes 3 0 ≡ 80 → letters bytes ≡ true
letters_from bytes a b c d =
    let at : (k x : ℕ) → get_or bytes k 0 ≡ x → may_be bytes k x ≡ true = λ k x e. or_right (leb (length bytes) k) (eqb (get_or bytes k 0) x) (eq-eqb _ _ e) in
    and_from _ (may_be bytes 3 80) (and_from _ (may_be bytes 2 73) (and_from (may_be bytes 0 67) (may_be bytes 1 72) (at 0 67 a) (at 1 72 b)) (at 2 73 c)) (at 3 80 d)

digits : (x p q s a b c d : ℕ) → p * 256 + a ≡ x → q * 256 + b ≡ p → s * 256 + c ≡ q → d ≡ s → word a b c d ≡ x
digits x p q s a b c d e f g h = omega arith

pub word_again : (x : ℕ) → x < 4294967296 → word (x % 256) (x / 256 % 256) (x / 65536 % 256) (x / 16777216 % 256) ≡ x
word_again x h =
    let e : x / 256 / 256 ≡ x / 65536 = div-div-eq-div-mul x 256 256 in
    let f : x / 65536 / 256 ≡ x / 16777216 = div-div-eq-div-mul x 65536 256 in
    let l : x / 16777216 < 256 = div_below x 16777216 256 (omega arith) h in
    digits x (x / 256) (x / 65536) (x / 16777216) _ _ _ _
    (div-add-mod' x 256)
    (ap (λ q. q * 256 + x / 256 % 256) (sym e) ∙ div-add-mod' (x / 256) 256)
    (ap (λ q. q * 256 + x / 65536 % 256) (sym f) ∙ div-add-mod' (x / 65536) 256)
    (mod-eq_of_lt l)

pub all_taken : AllImagesAreTaken
unfolding header_of
all_taken cores lines rest a b c d e =
    let w : word (lines % 256) (lines / 256 % 256) (lines / 65536 % 256) (lines / 16777216 % 256) ≡ lines = word_again lines (omega arith) in
    taken (image cores lines rest) (letters_from (image cores lines rest) refl refl refl refl) a b (omega (arith, w)) (omega (arith, w)) (omega (arith, w, e))
    ∙ ap (λ (x : ℕ). Ok (record { cores = cores; lines = x })) w

-- a test that refuses was not met
passes : (t : Bool) (e : Refusal) (r : Result Header Refusal) (h : Header) → cond t (Err e) r ≡ Ok h → (t ≡ false) × (r ≡ Ok h)
passes true e r h g = let z : ◌≡◌ {A = ℕ} 0 1 = cc in absurd (omega arith)
passes false e r h g = (refl, g)

-- what each test of the rule says
record Passed (bytes : List ℕ) (h : Header) : Type 0 where
  spelt : letters bytes ≡ true
  fits : Fits bytes h
  cores_are : get_or bytes 4 0 ≡ h.cores
  lines_are : word_at bytes 5 ≡ h.lines

passed : (bytes : List ℕ) (h : Header) → header_rule bytes ≡ Ok h → Passed bytes h
passed bytes h g =
    let p1 = passes (not (letters bytes)) _ _ h g in
    let p2 = passes (ltb (length bytes) 5) _ _ h p1.1 in
    let p3 = passes (outside 1 4 (get_or bytes 4 0)) _ _ h p2.1 in
    let p4 = passes (ltb (length bytes) 9) _ _ h p3.1 in
    let p5 = passes (outside 1 65536 (word_at bytes 5)) _ _ h p4.1 in
    let p6 = passes (ltb (length bytes) (size (word_at bytes 5))) _ _ h p5.1 in
    let p7 = passes (ltb (size (word_at bytes 5)) (length bytes)) _ _ h p6.1 in
    let is : record { cores = get_or bytes 4 0; lines = word_at bytes 5 } ≡ h = cc p7.1 in
    let c : get_or bytes 4 0 ≡ h.cores = ap (λ (x : Header). x.cores) is in
    let l : word_at bytes 5 ≡ h.lines = ap (λ (x : Header). x.lines) is in
    let q = or_parts (ltb (get_or bytes 4 0) 1) (ltb 4 (get_or bytes 4 0)) p3.0 in
    let r = or_parts (ltb (word_at bytes 5) 1) (ltb 65536 (word_at bytes 5)) p5.0 in
    let low = ltb-false (length bytes) (size (word_at bytes 5)) p6.0 in
    let high = ltb-false (size (word_at bytes 5)) (length bytes) p7.0 in
    record {
      spelt = not-false _ p1.0;
      fits = record {
        some_core = omega (arith, c, ltb-false (get_or bytes 4 0) 1 q.0);
        few_cores = omega (arith, c, ltb-false 4 (get_or bytes 4 0) q.1);
        some_line = omega (arith, l, ltb-false (word_at bytes 5) 1 r.0);
        few_lines = omega (arith, l, ltb-false 65536 (word_at bytes 5) r.1);
        long = omega (arith, l, low, high);
      };
      cores_are = c;
      lines_are = l;
    }

letter_is : (bytes : List ℕ) (k x : ℕ) → k < length bytes → may_be bytes k x ≡ true → get_or bytes k 0 ≡ x
letter_is bytes k x l h =
    elim (or_cases (leb (length bytes) k) (eqb (get_or bytes k 0) x) h) [ inl t ↦ absurd (omega (arith, leb-true _ _ t)) | inr e ↦ eqb-true _ _ e ]

-- the bytes of a word, from the word
word_parts : (a b c d : ℕ) → a < 256 → b < 256 → c < 256 → d < 256 → word_bytes (word a b c d) ≡ a ∷ b ∷ c ∷ d ∷ []
word_parts a b c d h i j k =
    let p : word a b c d / 256 ≡ b + c * 256 + d * 65536 = omega arith in
    let q : word a b c d / 65536 ≡ c + d * 256 = omega arith in
    let s : word a b c d / 16777216 ≡ d = omega arith in
    let e0 : word a b c d % 256 ≡ a = omega arith in
    let e1 : (b + c * 256 + d * 65536) % 256 ≡ b = omega arith in
    let e2 : (c + d * 256) % 256 ≡ c = omega arith in
    rw (p, q, s, e0, e1, e2, mod-eq_of_lt k)

nine : (bytes : List ℕ) → 9 ≤ length bytes →
    bytes ≡ get_or bytes 0 0 ∷ get_or bytes 1 0 ∷ get_or bytes 2 0 ∷ get_or bytes 3 0 ∷ get_or bytes 4 0 ∷ get_or bytes 5 0 ∷ get_or bytes 6 0 ∷ get_or bytes 7 0 ∷ get_or bytes 8 0 ∷ drop 9 bytes
nine bytes h =
    let a : bytes ≡ get_or bytes 0 0 ∷ get_or bytes 1 0 ∷ get_or bytes 2 0 ∷ get_or bytes 3 0 ∷ drop 4 bytes = drop_four bytes 0 (omega arith) in
    let b : drop 4 bytes ≡ get_or bytes 4 0 ∷ drop 5 bytes = drop_more bytes 4 0 (omega arith) in
    let c : drop 5 bytes ≡ get_or bytes 5 0 ∷ get_or bytes 6 0 ∷ get_or bytes 7 0 ∷ get_or bytes 8 0 ∷ drop 9 bytes = drop_four bytes 5 (omega arith) in
    cc

pub only_taken : OnlyImagesAreTaken
unfolding header_of
only_taken bytes h small g =
    let p = passed bytes h g in
    let n : 9 ≤ length bytes = omega (arith, p.fits.long) in
    let q = and_parts (may_be bytes 0 67 && may_be bytes 1 72 && may_be bytes 2 73) (may_be bytes 3 80) p.spelt in
    let r = and_parts (may_be bytes 0 67 && may_be bytes 1 72) (may_be bytes 2 73) q.0 in
    let s = and_parts (may_be bytes 0 67) (may_be bytes 1 72) r.0 in
    let c0 : get_or bytes 0 0 ≡ 67 = letter_is bytes 0 67 (omega arith) s.0 in
    let c1 : get_or bytes 1 0 ≡ 72 = letter_is bytes 1 72 (omega arith) s.1 in
    let c2 : get_or bytes 2 0 ≡ 73 = letter_is bytes 2 73 (omega arith) r.1 in
    let c3 : get_or bytes 3 0 ≡ 80 = letter_is bytes 3 80 (omega arith) q.1 in
    let w : word_bytes (word_at bytes 5) ≡ get_or bytes 5 0 ∷ get_or bytes 6 0 ∷ get_or bytes 7 0 ∷ get_or bytes 8 0 ∷ [] = word_parts _ _ _ _ (small 5) (small 6) (small 7) (small 8) in
    let v : word_bytes h.lines ≡ get_or bytes 5 0 ∷ get_or bytes 6 0 ∷ get_or bytes 7 0 ∷ get_or bytes 8 0 ∷ [] = ap word_bytes (sym p.lines_are) ∙ w in
    (p.fits, nine bytes n ∙ cc p.cores_are)

-- the fault that comes first
some_byte : (bytes : List ℕ) → letters bytes ≡ false → 0 < length bytes
some_byte [] h = absurd (true≢false h)
some_byte (b ∷ bytes) h = omega arith

module _ (bytes : List ℕ) where
  no_magic : letters bytes ≡ false → (f : Refusal) → Faulty bytes f → Before NoMagic f
  no_magic l (MemoryEnds n) g = inl (omega (arith, some_byte bytes l))
  no_magic l (MemoryGoesOn at) g = inl (omega arith)
  no_magic l NoMagic g = inr (refl, omega arith)
  no_magic l Cores g = inl (omega arith)
  no_magic l Lines g = inl (omega arith)
  no_magic l (Choices fault at) g = absurd g
  no_magic l (Lent slice) g = absurd g

  bad_cores : letters bytes ≡ true → 5 ≤ length bytes → (f : Refusal) → Faulty bytes f → Before Cores f
  bad_cores l n (MemoryEnds m) g = inl (omega arith)
  bad_cores l n (MemoryGoesOn at) g = inl (omega arith)
  bad_cores l n NoMagic g = absurd (both_ways _ g l)
  bad_cores l n Cores g = inr (refl, omega arith)
  bad_cores l n Lines g = inl (omega arith)
  bad_cores l n (Choices fault at) g = absurd g
  bad_cores l n (Lent slice) g = absurd g

  bad_lines : letters bytes ≡ true → 9 ≤ length bytes → outside 1 4 (get_or bytes 4 0) ≡ false → (f : Refusal) → Faulty bytes f → Before Lines f
  bad_lines l n c (MemoryEnds m) g = inl (omega arith)
  bad_lines l n c (MemoryGoesOn at) g = inl (omega arith)
  bad_lines l n c NoMagic g = absurd (both_ways _ g l)
  bad_lines l n c Cores g = absurd (both_ways _ c g.1)
  bad_lines l n c Lines g = inr (refl, omega arith)
  bad_lines l n c (Choices fault at) g = absurd g
  bad_lines l n c (Lent slice) g = absurd g

  ends_early : letters bytes ≡ true → (5 ≤ length bytes → outside 1 4 (get_or bytes 4 0) ≡ false) → (9 ≤ length bytes → outside 1 65536 (word_at bytes 5) ≡ false) →
      length bytes < size (word_at bytes 5) → (f : Refusal) → Faulty bytes f → Before (MemoryEnds (length bytes)) f
  ends_early l c k s (MemoryEnds m) g = inr (sym g.0, omega arith)
  ends_early l c k s (MemoryGoesOn at) g = absurd (omega arith)
  ends_early l c k s NoMagic g = absurd (both_ways _ g l)
  ends_early l c k s Cores g = absurd (both_ways _ (c g.0) g.1)
  ends_early l c k s Lines g = absurd (both_ways _ (k g.0) g.1)
  ends_early l c k s (Choices fault at) g = absurd g
  ends_early l c k s (Lent slice) g = absurd g

  -- no fault, but for one at the end
  nothing_else : letters bytes ≡ true → outside 1 4 (get_or bytes 4 0) ≡ false → outside 1 65536 (word_at bytes 5) ≡ false → size (word_at bytes 5) ≤ length bytes →
      (f : Refusal) → Faulty bytes f → (f ≡ MemoryGoesOn (size (word_at bytes 5))) × (size (word_at bytes 5) < length bytes)
  nothing_else l c k s (MemoryEnds m) g = absurd (omega arith)
  nothing_else l c k s (MemoryGoesOn at) g = (ap (λ (x : ℕ). MemoryGoesOn x) g.0, omega arith)
  nothing_else l c k s NoMagic g = absurd (both_ways _ g l)
  nothing_else l c k s Cores g = absurd (both_ways _ c g.1)
  nothing_else l c k s Lines g = absurd (both_ways _ k g.1)
  nothing_else l c k s (Choices fault at) g = absurd g
  nothing_else l c k s (Lent slice) g = absurd g

  goes_on : letters bytes ≡ true → outside 1 4 (get_or bytes 4 0) ≡ false → outside 1 65536 (word_at bytes 5) ≡ false → size (word_at bytes 5) ≤ length bytes →
      (f : Refusal) → Faulty bytes f → Before (MemoryGoesOn (size (word_at bytes 5))) f
  goes_on l c k s f g = let e = (nothing_else l c k s f g).0 in inr (sym (ap place e), rw e (omega arith))

  judged_rule : Judged bytes (header_rule bytes)
  judged_rule =
      cond_both (not (letters bytes)) _ _ (Judged bytes)
      (λ t. let l : letters bytes ≡ false = not-true _ t in (l, omega arith, no_magic l))
      (λ t.
      let l : letters bytes ≡ true = not-false _ t in
      cond_both (ltb (length bytes) 5) _ _ (Judged bytes)
      (λ t5. let n : length bytes < 5 = ltb-true _ _ t5 in ((refl, omega arith), omega arith, ends_early l (λ m. absurd (omega arith)) (λ m. absurd (omega arith)) (omega arith)))
      (λ t5.
      let n : 5 ≤ length bytes = ltb-false _ _ t5 in
      cond_both (outside 1 4 (get_or bytes 4 0)) _ _ (Judged bytes)
      (λ c. ((n, c), omega arith, bad_cores l n))
      (λ c.
      cond_both (ltb (length bytes) 9) _ _ (Judged bytes)
      (λ t9. let m : length bytes < 9 = ltb-true _ _ t9 in ((refl, omega arith), omega arith, ends_early l (λ _. c) (λ o. absurd (omega arith)) (omega arith)))
      (λ t9.
      let m : 9 ≤ length bytes = ltb-false _ _ t9 in
      cond_both (outside 1 65536 (word_at bytes 5)) _ _ (Judged bytes)
      (λ k. ((m, k), omega arith, bad_lines l m c))
      (λ k.
      cond_both (ltb (length bytes) (size (word_at bytes 5))) _ _ (Judged bytes)
      (λ s. let o = ltb-true (length bytes) (size (word_at bytes 5)) s in ((refl, o), omega arith, ends_early l (λ _. c) (λ _. k) o))
      (λ s.
      let o = ltb-false (length bytes) (size (word_at bytes 5)) s in
      cond_both (ltb (size (word_at bytes 5)) (length bytes)) _ _ (Judged bytes)
      (λ u. let v = ltb-true (size (word_at bytes 5)) (length bytes) u in ((refl, v), omega arith, goes_on l c k o))
      (λ u. λ f g. absurd (omega (arith, ltb-false (size (word_at bytes 5)) (length bytes) u, (nothing_else l c k o f g).1)))))))))

pub judged : LowestFaultRefuses
unfolding header_of
judged bytes = judged_rule bytes

bytes_length : (words : List ℕ) → length (bytes_of words) ≡ 4 * length words
unfolding bytes_of
bytes_length [] = refl
bytes_length (w ∷ words) = let ih = bytes_length words in omega (arith, ih)

words_again : (words : List ℕ) → Word words → words_of (bytes_of words) ≡ words
unfolding bytes_of words_of
words_again [] h = refl
words_again (w ∷ words) h = rw (word_again w (h 0)) (ap (λ (ws : List ℕ). w ∷ ws) (words_again words (λ k. h (suc k))))

pub written_read : WrittenIsRead
written_read cores lines words a b c d e h = (all_taken cores lines (bytes_of words) a b c d (bytes_length words ∙ omega arith), words_again words h)
