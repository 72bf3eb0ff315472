-- Lent words as tables: a part of the words, the blocks of a table, a table with one place changed, and memory's lines.
-- Assumes nothing: these are definitions.
use Rattle.std.specs.Prelude.{ℕ, zero, suc, ◌*◌, cond, List, [], ◌∷◌, take, drop, ◌==◌}

-- n words from word a on
unfoldable pub part : ℕ → ℕ → List ℕ → List ℕ
part a n words = take n (drop a words)

-- block i of a table whose blocks have n words
abbrev pub block : ℕ → List ℕ → ℕ → List ℕ
block n words i = part (n * i) n words

-- a table whose places have `size` words each: what the words of each place mean, which may depend on the place
abbrev pub table : {X : Type 0} → ℕ → (ℕ → List ℕ → X) → List ℕ → ℕ → X
table size said words k = said k (block size words k)

-- a table that has v in place i
abbrev pub put : {X : Type 0} → (ℕ → X) → ℕ → X → ℕ → X
put f i v = λ j. cond (j == i) v (f j)

-- the first n lines of memory, a line being eight words
unfoldable pub lines : ℕ → List ℕ → List (List ℕ)
lines zero words = []
lines (suc n) words = take 8 words ∷ lines n (drop 8 words)
