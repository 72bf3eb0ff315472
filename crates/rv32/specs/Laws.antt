-- Laws of one instruction. Each is a statement whose proof is owed.
-- Assumes nothing.
use Rattle.std.specs.Prelude.{◌≡◌, ℕ, ◌*◌, ◌/◌, ◌^◌, ◌<◌, false, length, Some, None, Option, slice_index, slice_index_or}
use Rattle.rv32.specs.Decode.{decode}
use Rattle.rv32.specs.Execute.{address, does, enters, execute, lets, need, one, start}
use Rattle.rv32.specs.declared.core_state.Core.{Core}
use Rattle.rv32.specs.declared.core_state.Effect.{Effect}
use Rattle.rv32.specs.declared.core_state.Effect.TheVariants.{Goes, Stores, Says, Stops}
use Rattle.rv32.specs.declared.core_state.Need.{Need}
use Rattle.rv32.specs.declared.core_state.Need.TheVariants.{Nothing, Read, Write}
use Rattle.rv32.specs.declared.instruction.Instruction.{Instruction}

-- an instruction looks at two words of memory at most: the word at pc and the word at its address settle what it does
abbrev pub TwoWords : Type 0
TwoWords =
    (lines : ℕ) (c : Core) (read other : ℕ → ℕ) → read (c.pc / 4) ≡ other (c.pc / 4) →
    read (address c (decode (read (c.pc / 4))) / 4) ≡ other (address c (decode (read (c.pc / 4))) / 4) → one lines c read ≡ one lines c other

-- one that needs no data does the same with any
abbrev pub NoData : Type 0
NoData = (lines : ℕ) (c : Core) (i : Instruction) (x y : ℕ) → need lines c i ≡ Nothing → execute lines c i x ≡ execute lines c i y

-- x is what a need asks for
abbrev pub Supplied : (ℕ → ℕ) → ℕ → Need → Type 0
Supplied read x Nothing = Unit {0}
Supplied read x (Read a) = x ≡ read a
Supplied read x (Write a) = x ≡ read a

-- a chip that has the word at pc, and the word that this instruction needs, does what the specification says
abbrev pub SuppliedDoes : Type 0
SuppliedDoes =
    (lines : ℕ) (c : Core) (read : ℕ → ℕ) (x : ℕ) → Supplied read x (need lines c (decode (read (c.pc / 4)))) →
    one lines c read ≡ does lines c (read (c.pc / 4)) x

-- what is fetched is a word of memory
abbrev pub FetchedWithin : ℕ → Option ℕ → Type 0
FetchedWithin lines None = Unit {0}
FetchedWithin lines (Some a) = a < 8 * lines

-- a need is for a word of memory
abbrev pub Within : ℕ → Need → Type 0
Within lines Nothing = Unit {0}
Within lines (Read a) = a < 8 * lines
Within lines (Write a) = a < 8 * lines

abbrev pub NeedsWithin : Type 0
NeedsWithin = (lines : ℕ) (c : Core) (i : Instruction) → Within lines (need lines c i)

-- a store is to a word of memory
abbrev pub StoresWithin : ℕ → Effect → Type 0
StoresWithin lines (Goes c) = Unit {0}
StoresWithin lines (Stores a x c) = a < 8 * lines
StoresWithin lines (Says x c) = Unit {0}
StoresWithin lines Stops = Unit {0}

-- and to the one that is needed to write
abbrev pub StoredAt : Need → Effect → Type 0
StoredAt n (Goes c) = Unit {0}
StoredAt n (Stores a x c) = n ≡ Write a
StoredAt n (Says x c) = Unit {0}
StoredAt n Stops = Unit {0}

abbrev pub StoresNeeded : Type 0
StoresNeeded = (lines : ℕ) (c : Core) (i : Instruction) (x : ℕ) → StoredAt (need lines c i) (execute lines c i x)

-- a core's registers are 32, of words, and x0 is 0
pub record WellFormed (c : Core) : Type 0 where
  pub counter : c.pc < 2 ^ 32
  pub resume : c.epc < 2 ^ 32
  pub count : length c.registers ≡ 32
  pub each : (k : ℕ) → slice_index c.registers k < 2 ^ 32
  pub zero : slice_index_or c.registers 0 0 ≡ 0

abbrev pub WellFormedEffect : Effect → Type 0
WellFormedEffect (Goes c) = WellFormed c
WellFormedEffect (Stores a x c) = (x < 2 ^ 32) × WellFormed c
WellFormedEffect (Says x c) = (x < 2 ^ 32) × WellFormed c
WellFormedEffect Stops = Unit {0}

-- an instruction makes words of words, and so does an interrupt; a new core has them
abbrev pub KeepsWords : Type 0
KeepsWords = (lines : ℕ) (c : Core) (word x : ℕ) → WellFormed c → x < 2 ^ 32 → WellFormedEffect (execute lines c (decode word) x)

abbrev pub InterruptKeepsWords : Type 0
InterruptKeepsWords = (c : Core) → WellFormed c → WellFormed (enters c)

abbrev pub StartsWithWords : Type 0
StartsWithWords = (k : ℕ) → k < 2 ^ 32 → WellFormed (start k)

-- once an interrupt is taken they are not let
abbrev pub NotLetInside : Type 0
NotLetInside = (c : Core) → lets (enters c) ≡ false
