-- What a layout without faults comes to, and why there is none. Each field is a statement whose proof is owed.
-- Assumes nothing.
use Rattle.std.specs.Prelude.{◌≡◌, ℕ, ◌+◌, ◌*◌, ◌%◌, ◌^◌, ◌<◌, ◌≤◌, Bool, false, ◌||◌, ◌⊎◌, List, [], ◌∷◌, ◌++◌, length, Ok, vec_items, Option, ◌==◌, slice_index}
use Rattle.words.specs.Word.{extend}
use Rattle.rv32.specs.Arithmetic.{add}
use Rattle.rv32.specs.Decode.{decode}
use Rattle.rv32.specs.declared.instruction.Instruction.{Instruction}
use Rattle.encode.specs.declared.order.Order.{Order}
use Rattle.layout.specs.Layout.{aligned, bytes_in, end, faults_of, high, outcome, part_of, size_of, values_of, with_operand}
use Rattle.layout.specs.declared.fault.LayoutError.{LayoutError}
use Rattle.layout.specs.declared.fault.Located.{Located}
use Rattle.layout.specs.declared.fault.LayoutError.TheVariants.{NoSuchSize, OutOfMemory, Faults}
use Rattle.layout.specs.declared.statement.Operand.{Operand}
use Rattle.layout.specs.declared.statement.Part.TheVariants.{Relative, RelativeHigh, RelativeLow}
use Rattle.layout.specs.declared.statement.Statement.{Statement}
use Rattle.layout.specs.declared.statement.Statement.TheVariants.{Label, Code, Data, Align, Origin}

-- where the statement after these stands
abbrev pub place : ℕ → List Statement → ℕ
place size before = end size 0 before

-- the bytes of a statement after others
abbrev pub bytes_at : ℕ → List ℕ → List Statement → Statement → List ℕ
bytes_at size values before s = bytes_in (outcome size values (place size before) s)

-- the word in the four bytes from an address on, low byte first
abbrev pub word_at : List ℕ → ℕ → ℕ
word_at memory a = slice_index memory a + slice_index memory (a + 1) * 256 + slice_index memory (a + 2) * 65536 + slice_index memory (a + 3) * 16777216

-- whether a statement, or one of several, is the label of a symbol
abbrev pub is_label : ℕ → Statement → Bool
is_label symbol (Label k) = k == symbol
is_label symbol (Code instruction order operand) = false
is_label symbol (Data width operand) = false
is_label symbol (Align bits) = false
is_label symbol (Origin address) = false

unfoldable pub labelled : ℕ → List Statement → Bool
labelled symbol [] = false
labelled symbol (s ∷ rest) = is_label symbol s || labelled symbol rest

-- memory, with these values of the labels, is what the statements say
pub record Meets (size : ℕ) (values : List ℕ) (statements : List Statement) (memory : List ℕ) : Type 0 where
  pub long : length memory ≡ size
  -- nothing is wrong with a statement
  pub fine : (before after : List Statement) (s : Statement) → statements ≡ before ++ s ∷ after → outcome size values (place size before) s ≡ Ok (bytes_at size values before s)
  -- its bytes stand at its place, which lies in memory
  pub there : (before after : List Statement) (s : Statement) (j : ℕ) → statements ≡ before ++ s ∷ after → j < length (bytes_at size values before s) →
      slice_index memory (place size before + j) ≡ slice_index (bytes_at size values before s) j
  pub inside : (before after : List Statement) (s : Statement) → statements ≡ before ++ s ∷ after → place size before + length (bytes_at size values before s) ≤ size
  -- those of another come after it
  pub apart : (before between after : List Statement) (s t : Statement) → statements ≡ before ++ s ∷ between ++ t ∷ after →
      place size before + length (bytes_at size values before s) ≤ place size (before ++ s ∷ between)
  -- all else is zero
  pub zero : (address : ℕ) → ((before after : List Statement) (s : Statement) → statements ≡ before ++ s ∷ after → (address < place size before) ⊎ (place size before + length (bytes_at size values before s) ≤ address)) →
      slice_index memory address ≡ 0
  -- an instruction is what the word at its place decodes to, and can be fetched from there
  pub fetched : (before after : List Statement) (i : Instruction) (order : Order) (operand : Option Operand) → statements ≡ before ++ Code i order operand ∷ after →
      (place size before % 4 ≡ 0) × (decode (word_at memory (place size before)) ≡ with_operand values (place size before) i operand)

-- a label's value is the address at which it stands, the last time if it stands more than once
abbrev pub Labels : ℕ → ℕ → List Statement → Type 0
Labels size symbols statements =
    (before after : List Statement) (symbol : ℕ) → statements ≡ before ++ Label symbol ∷ after → symbol < symbols → labelled symbol after ≡ false →
    slice_index (values_of size symbols statements) symbol ≡ place size before

pub record Laid_out (size symbols : ℕ) (statements : List Statement) (memory : List ℕ) : Type 0 where
  pub none : faults_of size symbols statements ≡ []
  pub meets : Meets size (values_of size symbols statements) statements memory
  pub labels : Labels size symbols statements

-- why no memory is made
pub record Faulty (lines symbols : ℕ) (statements : List Statement) (faults : List Located) : Type 0 where
  pub some : 1 ≤ lines
  pub few : lines ≤ 65536
  pub all : faults ≡ faults_of (size_of lines) symbols statements
  pub not_none : faults ≡ [] → ⊥

abbrev pub Because : ℕ → ℕ → List Statement → LayoutError → Type 0
Because lines symbols statements NoSuchSize = (lines < 1) ⊎ (65536 < lines)
Because lines symbols statements OutOfMemory = (1 ≤ lines) × (lines ≤ 65536)
Because lines symbols statements (Faults v) = Faulty lines symbols statements (vec_items v)

-- every memory up to `size` that goes as far as the statements do has them at the same places
abbrev pub Enough : ℕ → List Statement → ℕ → Type 0
Enough size statements extent = (small : ℕ) (before after : List Statement) → extent ≤ small → small ≤ size → statements ≡ before ++ after → place small before ≡ place size before

-- the two parts of a number make it up again, the upper one with no low bits
abbrev pub HighLow : Type 0
HighLow = (x : ℕ) → x < 2 ^ 32 → (high x % 2 ^ 12 ≡ 0) × (add (high x) (extend 12 x) ≡ x)

-- a distance leads from here to x; so do its two parts, the upper one taken here and the lower one by the next instruction
abbrev pub Distances : Type 0
Distances =
    (here x : ℕ) → here < 2 ^ 32 → x < 2 ^ 32 → (add here (part_of Relative here x) ≡ x)
    × (add (add here (part_of RelativeHigh here x)) (part_of RelativeLow (add here 4) x) ≡ x)

-- an alignment goes on to the first multiple that is not below here
abbrev pub AlignedFirst : Type 0
AlignedFirst = (here bits : ℕ) → (aligned here bits % 2 ^ bits ≡ 0) × (here ≤ aligned here bits) × (aligned here bits < here + 2 ^ bits)
