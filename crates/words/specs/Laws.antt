-- What the definitions of words and parts come to. Each is a statement whose proof is owed.
-- Assumes nothing.
use Rattle.std.specs.Prelude.{◌≡◌, ℕ, ◌+◌, ◌*◌, ◌%◌, ◌^◌, ◌<◌, ◌≤◌, ◌⊎◌, List, [], length, slice_index, slice_index_or, slice_set}
use Rattle.words.specs.Word.{field, replace, extend, byte_at, half_at}
use Rattle.words.specs.Parts.{block, lines, put}

-- a word is its four bytes, low byte first
abbrev pub FourBytes : Type 0
FourBytes = (w : ℕ) → w < 2 ^ 32 → w ≡ byte_at w 0 + 2 ^ 8 * byte_at w 1 + 2 ^ 16 * byte_at w 2 + 2 ^ 24 * byte_at w 3

-- and its two halves, each two bytes
abbrev pub TwoHalves : Type 0
TwoHalves = (w : ℕ) → w < 2 ^ 32 → (w ≡ half_at w 0 + 2 ^ 16 * half_at w 2) × ((a : ℕ) → half_at w (2 * a) ≡ byte_at w (2 * a) + 2 ^ 8 * byte_at w (2 * a + 1))

-- a field that is replaced has the low bits of x, and every field beside it stays: so for a byte, and for a half
abbrev pub FieldReplaced : Type 0
FieldReplaced =
    (word low size x : ℕ) → (field (replace word low size x) low size ≡ x % 2 ^ size)
    × ((a n : ℕ) → (a + n ≤ low) ⊎ (low + size ≤ a) → field (replace word low size x) a n ≡ field word a n)

-- an extended number is the number with 2 ^ 32 - 2 ^ size more where it is negative: both are the same modulo 2 ^ size
abbrev pub ExtendedSame : Type 0
ExtendedSame = (size x : ℕ) → 1 ≤ size → size ≤ 32 → (extend size x % 2 ^ size ≡ x % 2 ^ size) × (extend size x < 2 ^ 32)

-- memory's lines, word by word: reading one, and writing one
abbrev pub LineWord : Type 0
LineWord = (n k j : ℕ) (w : List ℕ) → k < n → j < 8 → slice_index (slice_index_or (lines n w) k []) j ≡ slice_index w (8 * k + j)

abbrev pub LineSet : Type 0
LineSet = (n k j x : ℕ) (w : List ℕ) → k < n → j < 8 → slice_set (lines n w) k (slice_set (slice_index_or (lines n w) k []) j x) ≡ lines n (slice_set w (8 * k + j) x)

abbrev pub LineCount : Type 0
LineCount = (n : ℕ) (w : List ℕ) → length (lines n w) ≡ n

-- a line is a block of eight words
abbrev pub LineBlock : Type 0
LineBlock = (n i : ℕ) (w : List ℕ) → i < n → slice_index_or (lines n w) i [] ≡ block 8 w i

-- words in which only block i is another have lines in which only line i is
abbrev pub LineWritten : Type 0
LineWritten = (n i : ℕ) (v w line : List ℕ) → i < n → block 8 w ≡ put (block 8 v) i line → lines n w ≡ slice_set (lines n v) i line
