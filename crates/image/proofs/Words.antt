-- Bytes as words, one more at a time.
use Rattle.std.proofs.Common.{◌≡◌, ℕ, zero, suc, ◌+◌, ◌-◌, ◌*◌, ◌/◌, ◌<◌, ◌≤◌, List, [], ◌∷◌, ◌++◌, length, get_or, take, drop, set, sym, refl, ap, ◌∙◌, append_assoc, arith}
use Rattle.std.proofs.lemmas.List.{drop_more, take_more_set, drop-set-lt, take-append-drop, drop-drop, length-drop, append-nil, take_rest}
use Rattle.image.specs.Memory.{word_at, words_of}
use Rattle.image.specs.MemoryLaws.{WordsByPlace}

pub words_short : (bytes : List ℕ) → length bytes < 4 → words_of bytes ≡ []
unfolding words_of
words_short [] h = refl
words_short (a ∷ []) h = refl
words_short (a ∷ b ∷ []) h = refl
words_short (a ∷ b ∷ c ∷ []) h = refl
words_short (a ∷ b ∷ c ∷ d ∷ rest) h = absurd (omega arith)

-- four bytes in front
pub drop_four : (bytes : List ℕ) (k : ℕ) → k + 4 ≤ length bytes →
    drop k bytes ≡ get_or bytes k 0 ∷ get_or bytes (k + 1) 0 ∷ get_or bytes (k + 2) 0 ∷ get_or bytes (k + 3) 0 ∷ drop (k + 4) bytes
drop_four bytes k h =
    let e1 : drop k bytes ≡ get_or bytes k 0 ∷ drop (k + 1) bytes = drop_more bytes k 0 (omega arith) in
    let e2 : drop (k + 1) bytes ≡ get_or bytes (k + 1) 0 ∷ drop (k + 2) bytes = drop_more bytes (k + 1) 0 (omega arith) ∙ ap (λ j. get_or bytes (k + 1) 0 ∷ drop j bytes) (omega arith) in
    let e3 : drop (k + 2) bytes ≡ get_or bytes (k + 2) 0 ∷ drop (k + 3) bytes = drop_more bytes (k + 2) 0 (omega arith) ∙ ap (λ j. get_or bytes (k + 2) 0 ∷ drop j bytes) (omega arith) in
    let e4 : drop (k + 3) bytes ≡ get_or bytes (k + 3) 0 ∷ drop (k + 4) bytes = drop_more bytes (k + 3) 0 (omega arith) ∙ ap (λ j. get_or bytes (k + 3) 0 ∷ drop j bytes) (omega arith) in
    cc

pub words_more : (bytes : List ℕ) (k : ℕ) → k + 4 ≤ length bytes → words_of (drop k bytes) ≡ word_at bytes k ∷ words_of (drop (k + 4) bytes)
unfolding words_of
words_more bytes k h = ap words_of (drop_four bytes k h)

-- one word more is read into memory, and what lies past it is as it was
pub read_more : (bytes m : List ℕ) (i w : ℕ) → w ≡ word_at bytes (4 * i) → i < length m → 4 * i + 4 ≤ length bytes →
    take i m ++ words_of (drop (4 * i) bytes) ≡ words_of bytes → take (i + 1) (set m i w) ++ words_of (drop (4 * (i + 1)) bytes) ≡ words_of bytes
read_more bytes m i w is h k was =
    let e : 4 * (i + 1) ≡ 4 * i + 4 = omega arith in
    rw (e, take_more_set m i w h, append_assoc, is) (ap (λ ws. take i m ++ ws) (sym (words_more bytes (4 * i) k)) ∙ was)

pub rest_more : (m was : List ℕ) (i w : ℕ) → drop i m ≡ drop i was → drop (i + 1) (set m i w) ≡ drop (i + 1) was
rest_more m was i w h =
    let l : i < i + 1 = omega arith in
    drop-set-lt (i + 1) m i w l ∙ sym (drop-drop 1 i m) ∙ ap (λ xs. drop 1 xs) h ∙ drop-drop 1 i was

-- all are read
pub read_all : (bytes m was : List ℕ) (i : ℕ) → i ≡ length bytes / 4 → take i m ++ words_of (drop (4 * i) bytes) ≡ words_of bytes → drop i m ≡ drop i was →
    m ≡ words_of bytes ++ drop (length bytes / 4) was
read_all bytes m was i e front rest =
    let none : words_of (drop (4 * i) bytes) ≡ [] = words_short _ (simp length-drop (omega arith)) in
    let t : take i m ++ [] ≡ words_of bytes = ap (λ ws. take i m ++ ws) (sym none) ∙ front in
    rw (← e, ← t, append-nil, ← rest, take-append-drop)

-- the words of a whole memory, whose bytes from the ninth on are read
pub words_of_memory : (bytes m was : List ℕ) (lines : ℕ) → length bytes ≡ 9 + 32 * lines →
    m ≡ words_of (take (length bytes - 9) (drop 9 bytes)) ++ drop (length (take (length bytes - 9) (drop 9 bytes)) / 4) was → m ≡ words_of (drop 9 bytes) ++ drop (8 * lines) was
words_of_memory bytes m was lines e h =
    let n : (length bytes - 9) / 4 ≡ 8 * lines = omega arith in
    h ∙ simp (take_rest, length-drop, n)

-- how many words there are, and each of them
pub words_length : (bytes : List ℕ) → length (words_of bytes) ≡ length bytes / 4
unfolding words_of
words_length [] = refl
words_length (a ∷ []) = refl
words_length (a ∷ b ∷ []) = refl
words_length (a ∷ b ∷ c ∷ []) = refl
words_length (a ∷ b ∷ c ∷ d ∷ rest) = let ih = words_length rest in omega arith

pub words_at : (bytes : List ℕ) (i : ℕ) → 4 * i + 4 ≤ length bytes → get_or (words_of bytes) i 0 ≡ word_at bytes (4 * i)
unfolding words_of
words_at [] i h = absurd (omega arith)
words_at (a ∷ []) i h = absurd (omega arith)
words_at (a ∷ b ∷ []) i h = absurd (omega arith)
words_at (a ∷ b ∷ c ∷ []) i h = absurd (omega arith)
words_at (a ∷ b ∷ c ∷ d ∷ rest) zero h = refl
words_at (a ∷ b ∷ c ∷ d ∷ rest) (suc i) h =
    let e : 4 * suc i ≡ suc (suc (suc (suc (4 * i)))) = omega arith in
    let e1 : 4 * suc i + 1 ≡ suc (suc (suc (suc (4 * i + 1)))) = omega arith in
    let e2 : 4 * suc i + 2 ≡ suc (suc (suc (suc (4 * i + 2)))) = omega arith in
    let e3 : 4 * suc i + 3 ≡ suc (suc (suc (suc (4 * i + 3)))) = omega arith in
    rw (e1, e2, e3, e) (words_at rest i (omega arith))

pub words_by_place : WordsByPlace
words_by_place bytes = (words_length bytes, words_at bytes)
