-- Lists as functions: what the board and the machines keep in lists is read by functions, and a write is a `put`.
use Rattle.std.proofs.Common.{◌≡◌, ℕ, ◌/◌, ◌%◌, ◌^◌, ◌<◌, List, [], length, get_or, set}
use Rattle.cores.specs.Machines.{with_word, word}
use Rattle.cores.specs.Promise.{Memory}
use Rattle.cores.specs.Put.{put}
use Rattle.cores.proofs.Basics.{set_put}
use Rattle.cores.proofs.Memory.{memory_set, memory_line, line_set as eight-set}

-- a memory as a function of the line
abbrev pub at_line : List (List ℕ) → ℕ → List ℕ
at_line m a = get_or m a []

pub line_set : (m : List (List ℕ)) (a : ℕ) (w : List ℕ) → a < length m → at_line (set m a w) ≡ put (at_line m) a w
line_set m a w h = λ i b. set_put m a w [] b h i

pub line_word : (m : List (List ℕ)) (x v : ℕ) → x / 8 < length m → at_line (with_word m x v) ≡ put (at_line m) (x / 8) (set (at_line m (x / 8)) (x % 8) v)
unfolding with_word
line_word m x v h = line_set m (x / 8) (set (at_line m (x / 8)) (x % 8) v) h

-- a store of a word of 32 bits leaves a memory of such words
pub memory_store : (m : List (List ℕ)) (y v : ℕ) → Memory m → y / 8 < length m → v < 2 ^ 32 → Memory (with_word m y v)
unfolding with_word
memory_store m y v r l b = memory_set m (y / 8) (set (get_or m (y / 8) []) (y % 8) v) r (eight-set (get_or m (y / 8) []) (y % 8) v (memory_line m (y / 8) r l) b)

pub memory_words : (m : List (List ℕ)) → Memory m → (x : ℕ) → word m x < 2 ^ 32
unfolding Memory word
memory_words m r x = r.3 (x / 8) (x % 8)
