-- The places of a row in its words: one more, and what a write leaves of them.
use Rattle.std.proofs.Common.{◌≡◌, ℕ, zero, suc, ◌+◌, ◌*◌, ◌<◌, ◌≤◌, min, List, [], ◌∷◌, ◌++◌, map, length, get_or, take, drop, set, sym, refl, ap, ◌∙◌, ap₂, inr, arith}
use borrow.Rule.Slice.PartMut.{put_mid}
use Rattle.std.specs.List.{range_with_len}
use Rattle.std.proofs.lemmas.List.FromFn.{fill_by_all, get_or-map-range_with_len, length-map-range_with_len, map-range_with_len_more}
use Rattle.std.proofs.lemmas.List.{drop-take, get_or-set_other, get_or-set_same, length-set, take_at, take_more, take-take}
use Rattle.std.proofs.lemmas.Slice.{drop-put_mid, take-put_mid_below}
use Rattle.words.specs.Parts.{block, lines, put}
use Rattle.words.proofs.Lines.{line_written}
use Rattle.words.proofs.Parts.{part_here, part_other}
use Rattle.board.specs.Layout.{beyond, place, row_in, row_of}
use Rattle.board.specs.declared.row.Waiting.{Waiting}

-- what is read past the end of a row
abbrev pub nobody : Waiting
nobody = record { line = 0; left = 0 }

-- tables that agree on their first n places
same_places : (f g : ℕ → Waiting) (n : ℕ) → ((k : ℕ) → k < n → f k ≡ g k) → map f (range_with_len 0 n) ≡ map g (range_with_len 0 n)
same_places f g n e =
    fill_by_all g (map f (range_with_len 0 n)) n nobody (length-map-range_with_len f 0 n) (λ k h. get_or-map-range_with_len f 0 n k k nobody h (omega arith) ∙ e k h)

-- a word written after the first n places
places_set : (w : List ℕ) (n j x : ℕ) → 2 * n ≤ j → map (place (set w j x)) (range_with_len 0 n) ≡ map (place w) (range_with_len 0 n)
places_set w n j x h =
    same_places (place (set w j x)) (place w) n
    (λ k l. λ i. record { line = get_or-set_other w j (2 * k) x 0 (omega arith) i; left = get_or-set_other w j (2 * k + 1) x 0 (omega arith) i })

-- place i written after those before it
pub places_more : (w : List ℕ) (xs : List Waiting) (i : ℕ) → 2 * i + 1 < length w → i < length xs → map (place w) (range_with_len 0 i) ≡ take i xs →
    map (place (set (set w (2 * i) (get_or xs i nobody).line) (2 * i + 1) (get_or xs i nobody).left)) (range_with_len 0 (i + 1)) ≡ take (i + 1) xs
places_more w xs i h l e =
    let x = get_or xs i nobody in
    let v = set w (2 * i) x.line in
    let u = set v (2 * i + 1) x.left in
    let long : length v ≡ length w = length-set w (2 * i) x.line in
    let here : place u i ≡ x = λ j. record { line = (get_or-set_other v (2 * i + 1) (2 * i) x.left 0 (omega arith) ∙ get_or-set_same w (2 * i) x.line 0 (omega arith)) j; left = get_or-set_same v (2 * i + 1) x.left 0 (omega arith) j } in
    let front : map (place u) (range_with_len 0 i) ≡ take i xs = places_set v i (2 * i + 1) x.left (omega arith) ∙ places_set w i (2 * i) x.line (omega arith) ∙ e in
    map-range_with_len_more (place u) 0 i i (omega arith) ∙ ap₂ (λ (ys : List Waiting) y. ys ++ y ∷ []) front here ∙ sym (take_more xs i nobody l)

-- and how many there are
pub places_counted : (w : List ℕ) (xs : List Waiting) → length w ≡ 1024 → length xs ≤ 16 → map (place w) (range_with_len 0 (length xs)) ≡ xs → row_in (set w 32 (length xs)) ≡ xs
unfolding row_in
places_counted w xs h l e =
    let n = length xs in
    let c : min (get_or (set w 32 n) 32 0) 16 ≡ n = ap (λ k. min k 16) (get_or-set_same w 32 n 0 (omega arith)) ∙ omega arith in
    ap (λ k. map (place (set w 32 n)) (range_with_len 0 k)) c ∙ places_set w n 32 n (omega arith) ∙ e

-- the first n lines are those of the first 8 n words
lines_front : (n : ℕ) (w : List ℕ) → lines n (take (8 * n) w) ≡ lines n w
unfolding lines
lines_front zero w = refl
lines_front (suc n) w =
    ap₂ ◌∷◌ (take-take 8 (8 * suc n) w (omega arith)) (ap (lines n) (ap (λ m. drop 8 (take m w)) (omega arith) ∙ drop-take 8 (8 * n) w) ∙ lines_front n (drop 8 w))

-- the row's words written: it has the new row, and all else stays
pub row_written : (n k : ℕ) (w ys : List ℕ) → 8 * n + 1024 ≤ length w → k ≡ 1024 → length ys ≡ 1024 →
    (row_of n (put_mid (8 * n) k w ys) ≡ row_in ys) × (lines n (put_mid (8 * n) k w ys) ≡ lines n w) × (beyond n (put_mid (8 * n) k w ys) ≡ beyond n w)
unfolding row_of
row_written n k w ys h f e = (
  ap row_in (part_here (8 * n) 1024 k w ys e h),
  sym (lines_front n (put_mid (8 * n) k w ys)) ∙ ap (lines n) (take-put_mid_below (8 * n) k w ys (8 * n) (omega arith) (omega arith)) ∙ lines_front n w,
  drop-put_mid (8 * n) k w ys (8 * n + 1024) (omega arith) (omega arith) (e ∙ sym f),
)

-- memory's words written: line i is the new one, and all else stays
pub memory_written : (n i k : ℕ) (w ys line : List ℕ) → 8 * n + 1024 ≤ length w → k ≡ 8 * n → length ys ≡ k → i < n → block 8 ys ≡ put (block 8 (take k w)) i line →
    (lines n (put_mid 0 k w ys) ≡ set (lines n w) i line) × (row_of n (put_mid 0 k w ys) ≡ row_of n w) × (beyond n (put_mid 0 k w ys) ≡ beyond n w)
unfolding row_of
memory_written n i k w ys line h f e l t = (
  sym (lines_front n (put_mid 0 k w ys))
      ∙ ap (lines n) (take_at ys _ (8 * n) (e ∙ f))
      ∙ line_written n i (take k w) ys line l t
      ∙ ap (λ (m : List (List ℕ)). set m i line) (ap (λ m. lines n (take m w)) f ∙ lines_front n w),
  ap row_in (part_other (8 * n) 1024 0 k w ys e (omega arith) (inr (omega arith))),
  drop-put_mid 0 k w ys (8 * n + 1024) (omega arith) (omega arith) e,
)
