-- The caches: what a slot has, where a line may be, the word that a core's cache gives, and the line that an instruction lacks.
-- Assumes nothing: these are definitions.
use Rattle.std.specs.Prelude.{ℕ, suc, ◌+◌, ◌*◌, ◌/◌, ◌%◌, Bool, true, false, List, [], ◌∷◌, replicate, ◌==◌, slice_index}
use Rattle.rv32.specs.declared.core_state.Need.{Need}
use Rattle.rv32.specs.declared.core_state.Need.TheVariants.{Nothing, Read, Write}
use Rattle.cores.specs.Machines.{pick}

-- what a slot has: nothing, or a line: its number, whether it is owned, so that it may be written, whether it is dirty, so that memory's is older, and its words
pub data Slot : Type 0 where
  empty : Slot
  holds : ℕ → Bool → Bool → List ℕ → Slot

-- whether it has line a, to read at least; to write; and newer than memory
abbrev pub has : Slot → ℕ → Bool
has empty a = false
has (holds b o d w) a = b == a

abbrev pub owns : Slot → ℕ → Bool
owns empty a = false
owns (holds b o d w) a = pick o (b == a) false

abbrev pub dirties : Slot → ℕ → Bool
dirties empty a = false
dirties (holds b o d w) a = pick d (b == a) false

abbrev pub is_empty : Slot → Bool
is_empty empty = true
is_empty (holds a o d w) = false

-- its words; an empty one has zeros
abbrev pub words : Slot → List ℕ
words empty = replicate 8 0
words (holds a o d w) = w

-- what a slot has, to write from now on
abbrev pub raised : Slot → Slot
raised empty = empty
raised (holds a o d w) = holds a true d w

-- and only to read from now on; memory has its words then
abbrev pub lowered : Slot → Slot
lowered empty = empty
lowered (holds a o d w) = holds a false false w

-- what is written to memory when a slot is handed back or may only be read any more: its line, if that is dirty
abbrev pub back : Slot → List (ℕ × List ℕ)
back empty = []
back (holds a o true w) = (a, w) ∷ []
back (holds a o false w) = []

-- a place is 64 times the core and the slot. Core k has line a in one of two places: this, or the next
abbrev pub home : ℕ → ℕ → ℕ
home k a = 64 * k + 2 * (a % 32)

-- where a line is: nowhere, or at a place
pub data Found : Type 0 where
  missing : Found
  found : ℕ → Found

-- where core k has line a
abbrev pub find : (ℕ → Slot) → ℕ → ℕ → Found
find f k a = pick (has (f (home k a)) a) (found (home k a)) (pick (has (f (suc (home k a))) a) (found (suc (home k a))) missing)

-- word number x, where its line is; 0 if it is nowhere
abbrev pub word_at : (ℕ → Slot) → Found → ℕ → ℕ
word_at f missing x = 0
word_at f (found p) x = slice_index (words (f p)) (x % 8)

-- word number x as core k's cache has it
abbrev pub cached : (ℕ → Slot) → ℕ → ℕ → ℕ
cached f k x = word_at f (find f k (x / 8)) x

-- what keeps an instruction from being done: nothing, or a line that its cache lacks, and whether it is lacked to write
pub data Lack : Type 0 where
  ready : Lack
  lacks : ℕ → Bool → Lack

-- word x is needed to read, and its line is there or not
abbrev pub to_read : Found → ℕ → Lack
to_read missing x = lacks (x / 8) false
to_read (found p) x = ready

-- or to write: its line must be owned
abbrev pub to_write : (ℕ → Slot) → Found → ℕ → Lack
to_write f missing x = lacks (x / 8) true
to_write f (found p) x = pick (owns (f p) (x / 8)) ready (lacks (x / 8) true)

-- what core k lacks of what it needs
abbrev pub seek : (ℕ → Slot) → ℕ → Need → Lack
seek f k Nothing = ready
seek f k (Read x) = to_read (find f k (x / 8)) x
seek f k (Write x) = to_write f (find f k (x / 8)) x

-- the first of two, if that is a lack, else the second
abbrev pub first : Lack → Lack → Lack
first ready b = b
first (lacks a o) b = lacks a o

-- the line of a word that is needed
abbrev pub line_of : Need → ℕ
line_of Nothing = 0
line_of (Read x) = x / 8
line_of (Write x) = x / 8

-- whether a line that comes goes to the first of two places, which have x and y: to one that is empty; else not to that of line f, from which the
-- instruction is fetched; else by b
abbrev pub goes_first : Slot → Slot → ℕ → Bool → Bool
goes_first x y f b = pick (is_empty x) true (pick (is_empty y) false (pick (has x f) false (pick (has y f) true b)))

-- the place for line a in core k's cache: where it is already, to read; or one of two, by b
abbrev pub chosen : Found → ℕ → ℕ → Bool → ℕ
chosen (found p) k a b = p
chosen missing k a b = pick b (home k a) (suc (home k a))
