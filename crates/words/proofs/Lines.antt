-- Memory's lines and the words that they are decoded from are read and written alike.
use Rattle.std.proofs.Common.{◌≡◌, ℕ, zero, suc, ◌+◌, ◌*◌, List, [], ◌∷◌, map, get_or, take, drop, set, sym, refl, ap, ◌∙◌, ap₂, arith, get_or-drop, get_or-take, drop-set-lt}
use lib.Seq.{take-set-lt, take-set-le, drop-set-add}
use Rattle.std.proofs.lemmas.List.FromFn.{get_or-map-range_with_len}
use Rattle.std.proofs.lemmas.List.{drop-drop}
use Rattle.std.specs.List.{range_with_len}
use Rattle.words.proofs.Parts.{table_set}
use Rattle.words.specs.Laws.{LineBlock, LineCount, LineSet, LineWord, LineWritten}
use Rattle.words.specs.Parts.{block, lines, part}

pub line_count : LineCount
unfolding lines
line_count zero w = refl
line_count (suc n) w = ap suc (line_count n (drop 8 w))

pub line_word : LineWord
unfolding lines
line_word zero k j w h g = absurd (omega arith)
line_word (suc n) zero j w h g = get_or-take 8 w j 0 g ∙ ap (λ i. get_or w i 0) (omega arith)
line_word (suc n) (suc k) j w h g = line_word n k j (drop 8 w) (omega arith) g ∙ get_or-drop 8 w (8 * k + j) 0 ∙ ap (λ i. get_or w i 0) (omega arith)

pub line_set : LineSet
unfolding lines
line_set zero k j x w h g = absurd (omega arith)
line_set (suc n) zero j x w h g =
    ap₂ ◌∷◌ (sym (take-set-lt 8 w j x g)) (ap (lines n) (sym (drop-set-lt 8 w j x g))) ∙ ap (λ i. lines (suc n) (set w i x)) (omega arith)
line_set (suc n) (suc k) j x w h g =
    ap₂ ◌∷◌ (sym (take-set-le 8 w (8 + (8 * k + j)) x (omega arith))) (line_set n k j x (drop 8 w) (omega arith) g ∙ ap (lines n) (sym (drop-set-add 8 w (8 * k + j) x)))
    ∙ ap (λ i. lines (suc n) (set w i x)) (omega arith)

-- lines are a table of blocks
lines_from : (n i : ℕ) (w : List ℕ) → lines n (drop (8 * i) w) ≡ map (block 8 w) (range_with_len i n)
unfolding lines part
lines_from zero i w = refl
lines_from (suc n) i w =
    ap (λ rest. take 8 (drop (8 * i) w) ∷ rest) (ap (lines n) (drop-drop 8 (8 * i) w ∙ ap (λ a. drop a w) (omega arith)) ∙ lines_from n (i + 1) w)

pub lines_table : (n : ℕ) (w : List ℕ) → lines n w ≡ map (block 8 w) (range_with_len 0 n)
lines_table n w = lines_from n 0 w

pub line_block : LineBlock
line_block n i w h = ap (λ m. get_or m i []) (lines_table n w) ∙ get_or-map-range_with_len (block 8 w) 0 n i i [] h (omega arith)

pub line_written : LineWritten
line_written n i v w line h e =
    lines_table n w ∙ ap (λ f. map f (range_with_len 0 n)) e ∙ table_set (block 8 v) i n line h ∙ ap (λ m. set m i line) (sym (lines_table n v))
