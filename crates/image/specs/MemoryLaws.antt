-- What holds of memories as bytes: the format written out, and which fault refuses. Each law is a statement; its proof stands behind `memory_laws`.
-- Assumes nothing: these are definitions and statements.
use Rattle.std.specs.Prelude.{◌≡◌, ℕ, ◌+◌, ◌*◌, ◌/◌, ◌<◌, ◌≤◌, true, false, ◌⊎◌, List, length, drop, Ok, Err, Result, slice_index}
use Rattle.image.specs.Memory.{letters, outside, size, word_at, header_of, Fits, words_of, bytes_of, image}
use Rattle.image.specs.Refusals.{number, place}
use Rattle.image.specs.declared.memory.Header.{Header}
use Rattle.image.specs.declared.refusal.Refusal.{Refusal}
use Rattle.image.specs.declared.refusal.Refusal.TheVariants.{MemoryEnds, MemoryGoesOn, NoMagic, Cores, Lines, Choices, Lent}

-- each is a byte
abbrev pub Byte : List ℕ → Type 0
Byte bytes = (k : ℕ) → slice_index bytes k < 256

-- each is a word of 32 bits
abbrev pub Word : List ℕ → Type 0
Word words = (k : ℕ) → slice_index words k < 4294967296

-- every memory that fits is taken
abbrev pub AllImagesAreTaken : Type 0
AllImagesAreTaken =
    (cores lines : ℕ) (rest : List ℕ) → 1 ≤ cores → cores ≤ 4 → 1 ≤ lines → lines ≤ 65536 → length rest ≡ 32 * lines →
    header_of (image cores lines rest) ≡ Ok (record { cores = cores; lines = lines })

-- and no other bytes are taken
abbrev pub OnlyImagesAreTaken : Type 0
OnlyImagesAreTaken =
    (bytes : List ℕ) (h : Header) → Byte bytes → header_of bytes ≡ Ok h → Fits bytes h × (bytes ≡ image h.cores h.lines (drop 9 bytes))

-- what each refusal says of the bytes
abbrev pub Faulty : List ℕ → Refusal → Type 0
Faulty bytes (MemoryEnds n) = (n ≡ length bytes) × (length bytes < size (word_at bytes 5))
Faulty bytes (MemoryGoesOn at) = (at ≡ size (word_at bytes 5)) × (at < length bytes)
Faulty bytes NoMagic = letters bytes ≡ false
Faulty bytes Cores = (5 ≤ length bytes) × (outside 1 4 (slice_index bytes 4) ≡ true)
Faulty bytes Lines = (9 ≤ length bytes) × (outside 1 65536 (word_at bytes 5) ≡ true)
Faulty bytes (Choices fault at) = ⊥
Faulty bytes (Lent slice) = ⊥

-- one refusal comes before another: it is at a lower place, or at the same with a number that is not higher
abbrev pub Before : Refusal → Refusal → Type 0
Before e f = (place e < place f) ⊎ ((place e ≡ place f) × (number e ≤ number f))

-- bytes are taken where nothing is in fault, and else refused for the fault that comes before all others
abbrev pub Judged : List ℕ → Result Header Refusal → Type 0
Judged bytes (Ok h) = (f : Refusal) → Faulty bytes f → ⊥
Judged bytes (Err e) = Faulty bytes e × (place e ≤ length bytes) × ((f : Refusal) → Faulty bytes f → Before e f)

-- so are all bytes
abbrev pub LowestFaultRefuses : Type 0
LowestFaultRefuses = (bytes : List ℕ) → Judged bytes (header_of bytes)

-- a memory that is written out is read as it was
abbrev pub WrittenIsRead : Type 0
WrittenIsRead =
    (cores lines : ℕ) (words : List ℕ) → 1 ≤ cores → cores ≤ 4 → 1 ≤ lines → lines ≤ 65536 → length words ≡ 8 * lines → Word words →
    (header_of (image cores lines (bytes_of words)) ≡ Ok (record { cores = cores; lines = lines })) × (words_of (drop 9 (image cores lines (bytes_of words))) ≡ words)

-- four bytes are a word, and which
abbrev pub WordsByPlace : Type 0
WordsByPlace =
    (bytes : List ℕ) → (length (words_of bytes) ≡ length bytes / 4) × ((i : ℕ) → 4 * i + 4 ≤ length bytes → slice_index (words_of bytes) i ≡ word_at bytes (4 * i))
