-- Power-on: memory's lines are those that were brought, and are lines of words.
use Rattle.std.proofs.Common.{◌≡◌, ℕ, zero, suc, ◌+◌, ◌*◌, ◌<◌, ◌≤◌, ltb, List, [], ◌∷◌, ◌++◌, length, get_or, drop, refl, ap, ◌∙◌, subst, arith, length-drop}
use Rattle.std.proofs.lemmas.List.{take-append-le, drop-append-le, length-take-le, get_or_past}
use Rattle.words.specs.Parts.{lines, part}
use Rattle.words.proofs.Lines.{line_count, line_word, line_block}
use Rattle.cores.specs.Machines.{said_by, manual_after}
use Rattle.cores.specs.Board.{Choice, powered}
use Rattle.cores.specs.Lent.{Lent}
use Rattle.cores.specs.Promise.{Memory, Promises, SameSaid}
use Rattle.cores.specs.Rv32.{rv32}
use Rattle.cores.proofs.Basics.{by_test, less, not_less}
use Rattle.image.specs.Memory.{words_of, Fits}
use Rattle.image.specs.declared.memory.Header.{Header}
use Rattle.image.proofs.Words.{words_length}
use Rattle.system.specs.Log.{Log}
use Rattle.system.specs.Run.{Finished, PoweredOn, Ran, choices_in, memory_in}
use Rattle.system.specs.declared.run.Ended.{Ended}

-- the first lines don't depend on the words past them
lines_front : (n : ℕ) (xs ys : List ℕ) → 8 * n ≤ length xs → lines n (xs ++ ys) ≡ lines n xs
unfolding lines
lines_front zero xs ys h = refl
lines_front (suc n) xs ys h =
    let a = take-append-le 8 xs ys (omega arith) in
    let b = drop-append-le 8 xs ys (omega arith) in
    let ih = lines_front n (drop 8 xs) ys (simp length-drop (omega arith)) in
    let z : lines n (drop 8 (xs ++ ys)) ≡ lines n (drop 8 xs) = ap (lines n) b ∙ ih in
    λ i. a i ∷ z i

-- memory is what was brought
pub memory_brought : (h : Header) (bytes rest : List ℕ) → Fits bytes h → lines h.lines (words_of (drop 9 bytes) ++ rest) ≡ lines h.lines (words_of (drop 9 bytes))
memory_brought h bytes rest f =
    lines_front h.lines (words_of (drop 9 bytes)) rest (let e = length-drop 9 bytes in omega (arith, words_length (drop 9 bytes), f.long))

line_long : (n k : ℕ) (w : List ℕ) → k < n → 8 * n ≤ length w → length (get_or (lines n w) k []) ≡ 8
unfolding part
line_long n k w h l = ap length (line_block n k w h) ∙ length-take-le 8 (drop (8 * k) w) (simp length-drop (omega arith))

words_below : (n k j : ℕ) (w : List ℕ) → 8 * n ≤ length w → ((i : ℕ) → get_or w i 0 < 4294967296) → get_or (get_or (lines n w) k []) j 0 < 4294967296
words_below n k j w l h = by_test (ltb k n)
    (λ a. by_test (ltb j 8) (λ b. rw (line_word n k j w (less k n a) (less j 8 b)) (h (8 * k + j)))
    (λ b. zero_below (get_or (lines n w) k []) j (let z = not_less j 8 b in let y = line_long n k w (less k n a) l in omega arith)))
    (λ a. none_below (lines n w) k j (let z = not_less k n a in omega (arith, line_count n w)))
  where
    zero_below : (xs : List ℕ) (j : ℕ) → length xs ≤ j → get_or xs j 0 < 4294967296
    zero_below xs j h = rw (get_or_past xs j 0 h) (omega arith)

    none_below : (xs : List (List ℕ)) (k j : ℕ) → length xs ≤ k → get_or (get_or xs k []) j 0 < 4294967296
    none_below xs k j h = rw (get_or_past xs k [] h) (omega arith)

-- and is one of words
pub memory_proper : (n : ℕ) (w : List ℕ) → 1 ≤ n → n ≤ 65536 → 8 * n ≤ length w → ((i : ℕ) → get_or w i 0 < 4294967296) → Memory (lines n w)
unfolding Memory
memory_proper n w a b l h = (
  omega (arith, line_count n w),
  omega (arith, line_count n w),
  (λ k k-in. line_long n k w (omega (arith, line_count n w)) l),
  (λ k j. words_below n k j w l h),
)

module _ (L : Lent) (promised : Promises rv32 L.chip) where
  -- the main promise, after these choices
  pub same_here : (n : ℕ) (m : List (List ℕ)) (cs : List Choice) → 1 ≤ n → n ≤ 4 → Memory m → (k : ℕ) →
      said_by k (powered L.chip n m cs).1.said ≡ said_by k (manual_after rv32 n m (powered L.chip n m cs).1.did).said
  unfolding SameSaid
  same_here n m cs p q r k = promised.same_said n m cs k p q r

  -- a run that came to its end keeps the main promise
  pub finished : (h : Header) (memory choices chips-on board-on chips board : List ℕ) (e : Ended) (start log : Log) →
      PoweredOn L h chips-on board-on → lines h.lines board-on ≡ memory_in h memory → e.cycles ≡ length (choices_in choices) →
      Ran L h.cores h.lines (lines h.lines board-on) (choices_in choices) chips board start log → e.stopped ≡ L.off (L.state_of chips) →
      Finished L h memory choices e chips board start log
  finished h memory choices chips-on board-on chips board e start log p q k r o = record {
    cycles = k;
    ran = subst (λ (m : List (List ℕ)). Ran L h.cores h.lines m (choices_in choices) chips board start log) q r;
    same = same_here h.cores (memory_in h memory) (choices_in choices) p.some_core p.few_cores (subst Memory q p.proper);
    stopped = o;
  }
