-- The two buffers: lines that are memory's, and what is read from them, asked for, and stored.
use Rattle.std.proofs.Common.{◌≡◌, ℕ, ◌/◌, ◌%◌, ◌^◌, ◌<◌, Bool, true, false, List, [], ◌∷◌, length, get_or, set, Some, None, Option, sym, refl, ap, ◌∙◌, arith}
use mathlib.Core.Bool.{false≢true}
use Rattle.cores.specs.Machines.{pick, word, with_word}
use Rattle.cores.specs.Promise.{Memory}
use Rattle.cores.specs.declared.port.Line.{Line}
use Rattle.cores.proofs.Basics.{choose, same}
use Rattle.cores.proofs.Memory.{memory_line, line_set, memory_set}
use Rattle.soc.specs.Kind.{Agree, Within}
use Rattle.soc.specs.Buffers.{holds, words_of, line_in, word_in, lacks_code, lacks_data, first}

-- a line that a buffer holds is memory's
abbrev pub Good : List (List ℕ) → Option Line → Type 0
Good m None = Unit {0}
Good m (Some l) = l.words ≡ get_or m l.number []

-- the row of lines that wait, where one or none is asked for
abbrev pub row : Option ℕ → List ℕ
row None = []
row (Some a) = a ∷ []

-- a line that is named is one of n
abbrev pub Below : ℕ → Option ℕ → Type 0
Below n None = Unit {0}
Below n (Some a) = a < n

-- no line is not one
pub not_none : {P : Type 0} {A : Type 0} (a : A) → Some a ≡ None → P
not_none a e = let z : ◌≡◌ {A = ℕ} 0 1 = cc in absurd (omega arith)

good_words : (m : List (List ℕ)) (b : Option Line) (a : ℕ) → Good m b → holds b a ≡ true → words_of b ≡ get_or m a []
good_words m None a g e = absurd (false≢true e)
good_words m (Some l) a g e = g ∙ ap (λ i. get_or m i []) (same l.number a e)

-- a line that one of the two holds is read as memory has it
pub line_good : (m : List (List ℕ)) (f d : Option Line) (a : ℕ) → Good m f → Good m d → (holds f a ≡ false → holds d a ≡ true) → line_in f d a ≡ get_or m a []
line_good m f d a g h k = choose (λ (ws : List ℕ). ws ≡ get_or m a []) (holds f a) (words_of f) (words_of d) (good_words m f a g) (λ e. good_words m d a h (k e))

word_good : (m : List (List ℕ)) (f d : Option Line) (x : ℕ) → Good m f → Good m d → (holds f (x / 8) ≡ false → holds d (x / 8) ≡ true) → word_in f d x ≡ word m x
unfolding word
word_good m f d x g h k = ap (λ ws. get_or ws (x % 8) 0) (line_good m f d (x / 8) g h k)

-- where nothing is lacked, the lines are there
picked_none : (b : Bool) (a : ℕ) → pick b None (Some a) ≡ None → b ≡ true
picked_none true a e = refl
picked_none false a e = not_none a e

picked_two : (b c : Bool) (a : ℕ) → pick b None (pick c None (Some a)) ≡ None → b ≡ false → c ≡ true
picked_two true c a e f = absurd (false≢true (sym f))
picked_two false c a e f = picked_none c a e

pub code_here : (x : ℕ) (f : Option Line) → lacks_code (Some x) f ≡ None → holds f (x / 8) ≡ true
code_here x f e = picked_none (holds f (x / 8)) (x / 8) e

pub data_here : (x : ℕ) (f d : Option Line) → lacks_data (Some x) f d ≡ None → holds f (x / 8) ≡ false → holds d (x / 8) ≡ true
data_here x f d e = picked_two (holds f (x / 8)) (holds d (x / 8)) (x / 8) e

-- so the words that are named are read as memory has them
pub code_agree : (m : List (List ℕ)) (f d : Option Line) (t : Option ℕ) → Good m f → Good m d → lacks_code t f ≡ None → Agree (word_in f d) (word m) t
code_agree m f d None g h e = tt
code_agree m f d (Some x) g h e = word_good m f d x g h (λ i. absurd (false≢true (sym i ∙ code_here x f e)))

pub data_agree : (m : List (List ℕ)) (f d : Option Line) (t : Option ℕ) → Good m f → Good m d → lacks_data t f d ≡ None → Agree (word_in f d) (word m) t
data_agree m f d None g h e = tt
data_agree m f d (Some x) g h e = word_good m f d x g h (data_here x f d e)

pub first_none : (a b : Option ℕ) → first a b ≡ None → (a ≡ None) × (b ≡ None)
first_none None b e = (refl, e)
first_none (Some a) b e = not_none a e

-- what is lacked is a line of memory
below_pick : (n : ℕ) (b : Bool) (x : Option ℕ) → Below n x → Below n (pick b None x)
below_pick n b x h = choose (Below n) b None x (λ _. tt) (λ _. h)

below_code : (n : ℕ) (t : Option ℕ) (f : Option Line) → Within n t → Below n (lacks_code t f)
below_code n None f w = tt
below_code n (Some x) f w = below_pick n (holds f (x / 8)) (Some (x / 8)) (omega arith)

below_data : (n : ℕ) (t : Option ℕ) (f d : Option Line) → Within n t → Below n (lacks_data t f d)
below_data n None f d w = tt
below_data n (Some x) f d w = below_pick n (holds f (x / 8)) _ (below_pick n (holds d (x / 8)) (Some (x / 8)) (omega arith))

below_first : (n : ℕ) (a b : Option ℕ) → Below n a → Below n b → Below n (first a b)
below_first n None b h k = k
below_first n (Some a) b h k = h

pub below_lacks : (n : ℕ) (t u : Option ℕ) (f d : Option Line) → Within n t → Within n u → Below n (first (lacks_code t f) (lacks_data u f d))
below_lacks n t u f d v w = below_first n (lacks_code t f) (lacks_data u f d) (below_code n t f v) (below_data n u f d w)

-- a word that is stored leaves a memory
pub memory_store : (m : List (List ℕ)) (y v : ℕ) → Memory m → y / 8 < length m → v < 2 ^ 32 → Memory (with_word m y v)
unfolding with_word
memory_store m y v mm l b = memory_set m (y / 8) (set (get_or m (y / 8) []) (y % 8) v) mm (line_set (get_or m (y / 8) []) (y % 8) v (memory_line m (y / 8) mm l) b)

pub memory_words : (m : List (List ℕ)) → Memory m → (x : ℕ) → word m x < 2 ^ 32
unfolding Memory word
memory_words m mm x = mm.3 (x / 8) (x % 8)
