-- Kinds of core that name the words of memory that they look at, and the laws that such a kind keeps.
-- Assumes nothing: these are definitions.
use Rattle.std.specs.Prelude.{◌≡◌, ℕ, ◌*◌, ◌^◌, ◌<◌, false, Some, None, Option}
use Rattle.rv32.specs.Did.{Did, goes, stores, says, stops}
use Rattle.cores.specs.Machines.{Isa}

-- a kind of core; for a memory of so many lines, the number of the word that the next instruction is fetched from; and that of the word which the
-- instruction needs besides, given the word fetched
pub record Kind : Type 1 where
  pub isa : Isa
  pub looks : ℕ → isa.Cpu → Option ℕ
  pub touch : ℕ → isa.Cpu → ℕ → Option ℕ

-- the word that is needed, where `read` gives memory's words: none, if nothing is fetched
abbrev pub needed : Option ℕ → (ℕ → Option ℕ) → (ℕ → ℕ) → Option ℕ
needed None touch read = None
needed (Some x) touch read = touch (read x)

-- the word that the next instruction of a core needs besides its own
abbrev pub needs : (κ : Kind) → ℕ → κ.isa.Cpu → (ℕ → ℕ) → Option ℕ
needs κ n c read = needed (κ.looks n c) (κ.touch n c) read

-- two memories have the same word where one is named
abbrev pub Agree : (ℕ → ℕ) → (ℕ → ℕ) → Option ℕ → Type 0
Agree read other None = Unit {0}
Agree read other (Some x) = read x ≡ other x

-- a word that is named lies in a memory of n lines
abbrev pub Within : ℕ → Option ℕ → Type 0
Within n None = Unit {0}
Within n (Some x) = x < 8 * n

-- what an instruction leaves: registers of which P holds, and a stored word of 32 bits
abbrev pub Leaves : {Cpu : Type 0} → (Cpu → Type 0) → Did Cpu → Type 0
Leaves P (goes c) = P c
Leaves P (stores a x c) = (x < 2 ^ 32) × P c
Leaves P (says x c) = P c
Leaves P stops = Unit {0}

-- the laws of a kind
pub record Laws (κ : Kind) : Type 1 where
  -- an instruction depends on memory at the two words that are named, and nowhere else
  pub alike : (n : ℕ) (c : κ.isa.Cpu) (read other : ℕ → ℕ) → Agree read other (κ.looks n c) → Agree read other (needs κ n c read) →
      κ.isa.one n c read ≡ κ.isa.one n c other
  -- it stores to the word that it needs
  pub storing : (n : ℕ) (c : κ.isa.Cpu) (read : ℕ → ℕ) (y v : ℕ) (d : κ.isa.Cpu) → κ.isa.one n c read ≡ stores y v d → needs κ n c read ≡ Some y
  -- the word that is fetched lies in memory
  pub looks_within : (n : ℕ) (c : κ.isa.Cpu) → Within n (κ.looks n c)
  -- and so does the word that is needed
  pub touch_within : (n : ℕ) (c : κ.isa.Cpu) (word : ℕ) → Within n (κ.touch n c word)
  -- what holds of the registers of new cores, and is kept by interrupts and instructions, where memory has words of 32 bits
  pub Sound : κ.isa.Cpu → Type 0
  pub start_sound : (k : ℕ) → k < 4 → Sound (κ.isa.start k)
  pub enters_sound : (c : κ.isa.Cpu) → Sound c → Sound (κ.isa.enters c)
  pub one_sound : (n : ℕ) (c : κ.isa.Cpu) (read : ℕ → ℕ) → Sound c → ((x : ℕ) → read x < 2 ^ 32) → Leaves Sound (κ.isa.one n c read)
  -- once an interrupt is taken none is let
  pub calm : (c : κ.isa.Cpu) → κ.isa.lets (κ.isa.enters c) ≡ false
