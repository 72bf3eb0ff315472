-- Choices as bytes: for each cycle one byte whose bit k says that the interrupt line of core k is up, one byte that says how many waiting lines are given, and their places, strictly rising.
-- Assumes nothing: these are definitions.
use Rattle.std.specs.Prelude.{◌≡◌, ℕ, zero, suc, ◌+◌, ◌-◌, ◌/◌, ◌%◌, ◌^◌, ◌<◌, ◌≤◌, Bool, cond, not, List, [], ◌∷◌, length, take, drop, Ok, Err, Result, ◌==◌, nat_le, nat_lt, slice_index}
use Rattle.image.specs.Refusals.{then}
use Rattle.image.specs.declared.choices.Expected.{Expected}
use Rattle.image.specs.declared.choices.Expected.TheVariants.{Raised, Count, Place}
use Rattle.image.specs.declared.choices.Records.{Records}
use Rattle.image.specs.declared.choices.Reader.{Reader}
use Rattle.image.specs.declared.choices.Record.{Record}
use Rattle.image.specs.declared.refusal.ChoiceFault.TheVariants.{CutShort, NoSuchCore, NotRising, TooManyCycles}
use Rattle.image.specs.declared.refusal.Refusal.{Refusal}
use Rattle.image.specs.declared.refusal.Refusal.TheVariants.{Choices}

-- what the outside chooses in a cycle: the byte of interrupt lines, and the places of the waiting lines that are given
pub record Cycle : Type 0 where
  pub raised : ℕ
  pub given : List ℕ

-- the interrupt line of core k is up: bit k of the byte is set
abbrev pub up : ℕ → ℕ → Bool
up raised k = raised / 2 ^ k % 2 == 1

-- the bytes' cycles, after so many bytes that are passed over; a record that is cut short is none
unfoldable pub cycles_from : ℕ → List ℕ → List Cycle
cycles_from k [] = []
cycles_from zero (r ∷ []) = []
cycles_from zero (r ∷ n ∷ bytes) = cond (nat_lt (length bytes) n) [] (record { raised = r; given = take n bytes } ∷ cycles_from n bytes)
cycles_from (suc k) (b ∷ bytes) = cycles_from k bytes

-- all cycles of the bytes
unfoldable pub cycles_of : List ℕ → List Cycle
cycles_of bytes = cycles_from 0 bytes

-- one cycle is read of the bytes from a place on, and ends at another: the cycles from there on are the others
pub record Read (bytes : List ℕ) (at raised : ℕ) (given : List ℕ) (end : ℕ) : Type 0 where
  pub cycles : cycles_of (drop at bytes) ≡ record { raised = raised; given = given } ∷ cycles_of (drop end bytes)
  pub later : at < end
  pub within : end ≤ length bytes

-- the cycle of a record that is read, and the cycles that are still to come
abbrev pub cycle_in : Record → Cycle
cycle_in r = record { raised = r.raised; given = r.given.now }

abbrev pub cycles_left : Records → List Cycle
cycles_left s = cycles_of (drop s.at s.bytes.now)

-- the bytes of a cycle from a place on: its first byte, how many places it has, and these, up to its end
pub record Stands (bytes : List ℕ) (at raised : ℕ) (given : List ℕ) (end : ℕ) : Type 0 where
  pub first : raised ≡ slice_index bytes at
  pub last : end ≡ at + 2 + slice_index bytes (at + 1)
  pub within : end ≤ length bytes
  pub part : given ≡ take (end - (at + 2)) (drop (at + 2) bytes)

-- a bit from the number of cores on is set
abbrev pub beyond : ℕ → ℕ → Bool
beyond cores byte = not (byte / 2 ^ cores == 0)

-- so many places are still to come in a record, the next at least so large; after the last a record is over
abbrev pub places : ℕ → ℕ → Expected
places zero least = Raised
places (suc left) least = Place (suc left) least

-- what is expected next, after so many cycles have begun
abbrev pub reading : Expected → ℕ → Reader
reading e n = record { expected = e; begun = n }

-- the byte at a place is read, by what is expected there
abbrev pub read : ℕ → Expected → ℕ → ℕ → ℕ → Result Reader Refusal
read cores Raised begun at b =
    cond (nat_le 4294967296 begun) (Err (Choices TooManyCycles at))
    (cond (beyond cores b) (Err (Choices NoSuchCore at))
    (Ok (reading Count (begun + 1))))
read cores Count begun at b = Ok (reading (places b 0) begun)
read cores (Place left least) begun at b = cond (nat_lt b least) (Err (Choices NotRising at)) (Ok (reading (places (left - 1) (b + 1)) begun))

-- the bytes end at a place: how many cycles there were, if a record is over
abbrev pub ended : Expected → ℕ → ℕ → Result ℕ Refusal
ended Raised begun at = Ok begun
ended Count begun at = Err (Choices CutShort at)
ended (Place left least) begun at = Err (Choices CutShort at)

-- the bytes from a place on, from left to right: how many cycles they have, or the first that is in fault
unfoldable pub scan : ℕ → Reader → ℕ → List ℕ → Result ℕ Refusal
scan cores s at [] = ended s.expected s.begun at
scan cores s at (b ∷ bytes) = then (read cores s.expected s.begun at b) (λ t. scan cores t (at + 1) bytes)

-- choices for so many cores: their cycles, or the refusal
unfoldable pub choices_of : ℕ → List ℕ → Result (List Cycle) Refusal
choices_of cores bytes = then (scan cores (reading Raised 0) 0 bytes) (λ n. Ok (cycles_of bytes))

-- how many cycles
abbrev pub counted : Result (List Cycle) Refusal → Result ℕ Refusal
counted r = then r (λ cs. Ok (length cs))
