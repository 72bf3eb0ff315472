-- A memory as bytes: "CHIP", the number of cores (one byte), the number of lines (four bytes), and eight words of four bytes for each line. Low bytes come first.
-- Assumes nothing: these are definitions.
use Rattle.std.specs.Prelude.{◌≡◌, ℕ, ◌+◌, ◌*◌, ◌/◌, ◌%◌, ◌≤◌, Bool, cond, not, ◌&&◌, ◌||◌, List, [], ◌∷◌, ◌++◌, length, drop, Ok, Err, codes, Result, ◌==◌, nat_le, nat_lt, slice_index}
use Rattle.image.specs.declared.memory.Header.{Header}
use Rattle.image.specs.declared.refusal.LentSlice.TheVariants.{Board}
use Rattle.image.specs.declared.refusal.Refusal.{Refusal}
use Rattle.image.specs.declared.refusal.Refusal.TheVariants.{MemoryEnds, MemoryGoesOn, NoMagic, Cores, Lines, Lent}

-- a word of four bytes
abbrev pub word : ℕ → ℕ → ℕ → ℕ → ℕ
word a b c d = a + b * 256 + c * 65536 + d * 16777216

-- the word in the four bytes from place k on
abbrev pub word_at : List ℕ → ℕ → ℕ
word_at bytes k = word (slice_index bytes k) (slice_index bytes (k + 1)) (slice_index bytes (k + 2)) (slice_index bytes (k + 3))

-- the byte at place k is not there, or it is x
abbrev pub may_be : List ℕ → ℕ → ℕ → Bool
may_be bytes k x = nat_le (length bytes) k || slice_index bytes k == x

-- those of the first four bytes that are there are the letters "CHIP"
abbrev pub letters : List ℕ → Bool
letters bytes = may_be bytes 0 67 && may_be bytes 1 72 && may_be bytes 2 73 && may_be bytes 3 80

-- a number is outside a range, whose ends are in it
abbrev pub outside : ℕ → ℕ → ℕ → Bool
outside low high n = nat_lt n low || nat_lt high n

-- the length of a memory of so many lines
abbrev pub size : ℕ → ℕ
size lines = 9 + 32 * lines

-- the bytes are read from left to right, and the first that is wrong or missing refuses them
abbrev pub header_rule : List ℕ → Result Header Refusal
header_rule bytes =
    cond (not (letters bytes)) (Err NoMagic)
    (cond (nat_lt (length bytes) 5) (Err (MemoryEnds (length bytes)))
    (cond (outside 1 4 (slice_index bytes 4)) (Err Cores)
    (cond (nat_lt (length bytes) 9) (Err (MemoryEnds (length bytes)))
    (cond (outside 1 65536 (word_at bytes 5)) (Err Lines)
    (cond (nat_lt (length bytes) (size (word_at bytes 5))) (Err (MemoryEnds (length bytes)))
    (cond (nat_lt (size (word_at bytes 5)) (length bytes)) (Err (MemoryGoesOn (size (word_at bytes 5))))
    (Ok (record { cores = slice_index bytes 4; lines = word_at bytes 5 }))))))))

-- the same, shut: other crates need not look inside
unfoldable pub header_of : List ℕ → Result Header Refusal
header_of bytes = header_rule bytes

-- what is known of bytes that are taken
pub record Fits (bytes : List ℕ) (h : Header) : Type 0 where
  pub some_core : 1 ≤ h.cores
  pub few_cores : h.cores ≤ 4
  pub some_line : 1 ≤ h.lines
  pub few_lines : h.lines ≤ 65536
  pub long : length bytes ≡ size h.lines

-- bytes as words; fewer than four bytes at the end are none
unfoldable pub words_of : List ℕ → List ℕ
words_of [] = []
words_of (a ∷ []) = []
words_of (a ∷ b ∷ []) = []
words_of (a ∷ b ∷ c ∷ []) = []
words_of (a ∷ b ∷ c ∷ d ∷ rest) = word a b c d ∷ words_of rest

-- a word as four bytes
abbrev pub word_bytes : ℕ → List ℕ
word_bytes x = x % 256 ∷ x / 256 % 256 ∷ x / 65536 % 256 ∷ x / 16777216 % 256 ∷ []

-- words as bytes, one after the other
unfoldable pub bytes_of : List ℕ → List ℕ
bytes_of [] = []
bytes_of (w ∷ words) = word_bytes w ++ bytes_of words

-- a memory written out: so many cores, so many lines, and the bytes of these lines
abbrev pub image : ℕ → ℕ → List ℕ → List ℕ
image cores lines rest = codes "CHIP" ++ (cores ∷ word_bytes lines) ++ rest

-- words of memory are lent for the lines
abbrev pub lent_for : ℕ → Header → Result Header Refusal
lent_for words h = cond (nat_lt words (8 * h.lines)) (Err (Lent Board)) (Ok h)

-- the memory's words come first, and words past them stay; a refusal changes none
abbrev pub loaded : Result Header Refusal → List ℕ → List ℕ → List ℕ
loaded (Ok h) bytes was = words_of (drop 9 bytes) ++ drop (8 * h.lines) was
loaded (Err e) bytes was = was
