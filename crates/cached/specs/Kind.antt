-- Kinds of core that name the words of memory that they look at, and whether to read or to write them; and the laws that such a kind keeps.
-- Assumes nothing: these are definitions.
use Rattle.std.specs.Prelude.{◌≡◌, ℕ, ◌/◌, ◌^◌, ◌<◌, false, Some, None, Option}
use Rattle.rv32.specs.Did.{Did, goes, stores, says, stops}
use Rattle.rv32.specs.declared.core_state.Need.{Need}
use Rattle.rv32.specs.declared.core_state.Need.TheVariants.{Nothing, Read, Write}
use Rattle.cores.specs.Machines.{Isa}

-- a kind of core; for a memory of so many lines, the number of the word that the next instruction is fetched from; and what the instruction needs
-- besides, given the word fetched: nothing, or a word to read, or a word to write
pub record Kind : Type 1 where
  pub isa : Isa
  pub looks : ℕ → isa.Cpu → Option ℕ
  pub touch : ℕ → isa.Cpu → ℕ → Need

-- a word that is fetched is one to read
abbrev pub to_fetch : Option ℕ → Need
to_fetch None = Nothing
to_fetch (Some x) = Read x

-- the word that is fetched, where `read` gives memory's words
abbrev pub word_of : Need → (ℕ → ℕ) → ℕ
word_of Nothing read = 0
word_of (Read x) read = read x
word_of (Write x) read = read x

-- the second of two needs, but nothing where the first is nothing
abbrev pub besides : Need → Need → Need
besides Nothing d = Nothing
besides (Read x) d = d
besides (Write x) d = d

-- what is needed besides the word fetched: nothing, if nothing is fetched
abbrev pub needed : Need → (ℕ → Need) → (ℕ → ℕ) → Need
needed l touch read = besides l (touch (word_of l read))

-- what the next instruction of a core needs: its own word, and what it needs besides
abbrev pub code : (κ : Kind) → ℕ → κ.isa.Cpu → Need
code κ n c = to_fetch (κ.looks n c)

abbrev pub operand : (κ : Kind) → ℕ → κ.isa.Cpu → (ℕ → ℕ) → Need
operand κ n c read = needed (code κ n c) (κ.touch n c) read

-- two memories have the same word where one is needed
abbrev pub Agree : (ℕ → ℕ) → (ℕ → ℕ) → Need → Type 0
Agree read other Nothing = Unit {0}
Agree read other (Read x) = read x ≡ other x
Agree read other (Write x) = read x ≡ other x

-- a word that is needed lies in a memory of n lines
abbrev pub Within : ℕ → Need → Type 0
Within n Nothing = Unit {0}
Within n (Read x) = x / 8 < n
Within n (Write x) = x / 8 < n

-- what an instruction leaves: registers of which P holds, and a stored word of 32 bits
abbrev pub Leaves : {Cpu : Type 0} → (Cpu → Type 0) → Did Cpu → Type 0
Leaves P (goes c) = P c
Leaves P (stores a x c) = (x < 2 ^ 32) × P c
Leaves P (says x c) = P c
Leaves P stops = Unit {0}

-- the laws of a kind
pub record Laws (κ : Kind) : Type 1 where
  -- an instruction depends on memory at the two words that it needs, and nowhere else
  pub alike : (n : ℕ) (c : κ.isa.Cpu) (read other : ℕ → ℕ) → Agree read other (code κ n c) → Agree read other (operand κ n c read) →
      κ.isa.one n c read ≡ κ.isa.one n c other
  -- it stores only to the word that it needs to write
  pub storing : (n : ℕ) (c : κ.isa.Cpu) (read : ℕ → ℕ) (y v : ℕ) (d : κ.isa.Cpu) → κ.isa.one n c read ≡ stores y v d → operand κ n c read ≡ Write y
  -- the word that is fetched lies in memory
  pub code_within : (n : ℕ) (c : κ.isa.Cpu) → Within n (code κ n c)
  -- and so does the word that is needed besides
  pub operand_within : (n : ℕ) (c : κ.isa.Cpu) (read : ℕ → ℕ) → Within n (operand κ n c read)
  -- what holds of the registers of new cores, and is kept by interrupts and instructions, where memory has words of 32 bits
  pub Sound : κ.isa.Cpu → Type 0
  pub start_sound : (k : ℕ) → k < 4 → Sound (κ.isa.start k)
  pub enters_sound : (c : κ.isa.Cpu) → Sound c → Sound (κ.isa.enters c)
  pub one_sound : (n : ℕ) (c : κ.isa.Cpu) (read : ℕ → ℕ) → Sound c → ((x : ℕ) → read x < 2 ^ 32) → Leaves Sound (κ.isa.one n c read)
  -- once an interrupt is taken none is let
  pub calm : (c : κ.isa.Cpu) → κ.isa.lets (κ.isa.enters c) ≡ false
