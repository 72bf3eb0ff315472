-- Statements laid out in memory: where each stands, the labels' values, the bytes of each, and what is wrong with one.
-- Assumes nothing: these are definitions.
use Rattle.std.specs.Prelude.{ℕ, zero, suc, ◌+◌, ◌-◌, ◌*◌, ◌/◌, ◌%◌, ◌^◌, Bool, true, cond, ◌||◌, List, [], ◌∷◌, ◌++◌, take, replicate, Some, None, Ok, Err, Option, Result, ◌==◌, nat_le, nat_lt, slice_index, slice_set}
use Rattle.std.specs.List.{fold}
use Rattle.std.specs.Result.{result_err}
use Rattle.words.specs.Word.{extend}
use Rattle.rv32.specs.Arithmetic.{add, sub}
use Rattle.rv32.specs.declared.instruction.Instruction.{Instruction}
use Rattle.rv32.specs.declared.instruction.Instruction.TheVariants.{Lui, Auipc, Jal, Jalr, Branch, Load, Store, OpImm, Op, Amo, Fence, Ecall, Ebreak, Mret, Illegal}
use Rattle.encode.specs.Encode.{encode, misfit, with_order}
use Rattle.encode.specs.declared.misfit.Misfit.{Misfit}
use Rattle.encode.specs.declared.order.Order.{Order}
use Rattle.layout.specs.declared.fault.Fault.{Fault}
use Rattle.layout.specs.declared.fault.Fault.TheVariants.{Outside, Backwards, Misaligned, NoWord, TooWide}
use Rattle.layout.specs.declared.fault.Located.{Located}
use Rattle.layout.specs.declared.statement.Operand.{Operand}
use Rattle.layout.specs.declared.statement.Part.{Part}
use Rattle.layout.specs.declared.statement.Part.TheVariants.{Whole, High, Low, Relative, RelativeHigh, RelativeLow}
use Rattle.layout.specs.declared.statement.Statement.{Statement}
use Rattle.layout.specs.declared.statement.Statement.TheVariants.{Label, Code, Data, Align, Origin}
use Rattle.layout.specs.declared.statement.Sum.{Sum}
use Rattle.layout.specs.declared.statement.Width.{Width}
use Rattle.layout.specs.declared.statement.Width.TheVariants.{Byte, Half, Word}

-- 1. Where statements stand. Memory is `size` bytes, and the first statement stands at address 0.

-- how many bytes data has
abbrev pub count : Width → ℕ
count Byte = 1
count Half = 2
count Word = 4

-- the first multiple of 2 ^ bits that is not below here
abbrev pub aligned : ℕ → ℕ → ℕ
aligned here bits = cond (here % 2 ^ bits == 0) here (here + (2 ^ bits - here % 2 ^ bits))

-- an address, if memory goes so far
abbrev pub within : ℕ → ℕ → Result ℕ Fault
within size address = cond (nat_lt size address) (Err Outside) (Ok address)

-- the address after a statement, or what keeps it from standing here; an alignment is to at most 2 ^ 20, half of the largest memory
abbrev pub placed : ℕ → ℕ → Statement → Result ℕ Fault
placed size here (Label symbol) = Ok here
placed size here (Code instruction order operand) = cond (here % 4 == 0) (within size (here + 4)) (Err Misaligned)
placed size here (Data width operand) = within size (here + count width)
placed size here (Align bits) = cond (nat_lt 20 bits) (Err Outside) (within size (aligned here bits))
placed size here (Origin address) = cond (nat_lt address here) (Err Backwards) (within size address)

-- the address of what follows a statement; one that cannot stand here takes no room
abbrev pub reached : ℕ → Result ℕ Fault → ℕ
reached here (Ok address) = address
reached here (Err fault) = here

abbrev pub next : ℕ → ℕ → Statement → ℕ
next size here s = reached here (placed size here s)

-- the address after the last statement
unfoldable pub end : ℕ → ℕ → List Statement → ℕ
end size here statements = fold (next size) here statements

-- 2. What operands come to. The labels' values are a list, by symbol; a symbol without a label has 0.

-- the values, with that of a statement that is a label and stands here
abbrev pub named : ℕ → Statement → List ℕ → List ℕ
named here (Label symbol) values = slice_set values symbol here
named here (Code instruction order operand) values = values
named here (Data width operand) values = values
named here (Align bits) values = values
named here (Origin address) values = values

unfoldable pub values_from : ℕ → ℕ → List Statement → List ℕ → List ℕ
values_from size here [] values = values
values_from size here (s ∷ rest) values = values_from size (next size here s) rest (named here s values)

-- the values of so many symbols
abbrev pub values_of : ℕ → ℕ → List Statement → List ℕ
values_of size symbols statements = values_from size 0 statements (replicate symbols 0)

abbrev pub label_value : List ℕ → Option ℕ → ℕ
label_value values None = 0
label_value values (Some symbol) = slice_index values symbol

-- a label's value, less another's, and a number, modulo 2 ^ 32
abbrev pub sum_of : List ℕ → Sum → ℕ
sum_of values terms = add (sub (label_value values terms.plus) (label_value values terms.minus)) terms.number

-- the upper 20 bits that give x with its low 12 bits, which are signed
abbrev pub high : ℕ → ℕ
high x = add x 0x800 - add x 0x800 % 0x1000

-- what is taken of x by a statement that stands here
abbrev pub part_of : Part → ℕ → ℕ → ℕ
part_of Whole here x = x
part_of High here x = high x
part_of Low here x = extend 12 x
part_of Relative here x = sub x here
part_of RelativeHigh here x = high (sub x here)
part_of RelativeLow here x = extend 12 (sub x (sub here 4))

abbrev pub value_of : List ℕ → ℕ → Operand → ℕ
value_of values here operand = part_of operand.part here (sum_of values operand.sum)

-- an instruction with another immediate, if it has one
abbrev pub filled : Instruction → ℕ → Instruction
filled (Lui d v) x = Lui d x
filled (Auipc d v) x = Auipc d x
filled (Jal d v) x = Jal d x
filled (Jalr d s v) x = Jalr d s x
filled (Branch k s t v) x = Branch k s t x
filled (Load k d s v) x = Load k d s x
filled (Store k s t v) x = Store k s t x
filled (OpImm o d s v) x = OpImm o d s x
filled (Op o d s t) x = Op o d s t
filled (Amo k d s t) x = Amo k d s t
filled Fence x = Fence
filled Ecall x = Ecall
filled Ebreak x = Ebreak
filled Mret x = Mret
filled Illegal x = Illegal

-- an instruction with the value of its operand, if it has one
abbrev pub with_operand : List ℕ → ℕ → Instruction → Option Operand → Instruction
with_operand values here i None = i
with_operand values here i (Some operand) = filled i (value_of values here operand)

-- 3. The bytes of a statement that stands here.

-- a word as four bytes, low byte first
abbrev pub word_bytes : ℕ → List ℕ
word_bytes x = x % 256 ∷ x / 256 % 256 ∷ x / 65536 % 256 ∷ x / 16777216 % 256 ∷ []

-- the marks are bits of an AMO's word alone
abbrev pub marked : Instruction → Order → ℕ → ℕ
marked (Lui d v) order word = word
marked (Auipc d v) order word = word
marked (Jal d v) order word = word
marked (Jalr d s v) order word = word
marked (Branch k s t v) order word = word
marked (Load k d s v) order word = word
marked (Store k s t v) order word = word
marked (OpImm o d s v) order word = word
marked (Op o d s t) order word = word
marked (Amo k d s t) order word = with_order word order
marked Fence order word = word
marked Ecall order word = word
marked Ebreak order word = word
marked Mret order word = word
marked Illegal order word = word

-- a word's bytes, unless something keeps the instruction from having one
abbrev pub unless : Option Misfit → ℕ → Result (List ℕ) Fault
unless None word = Ok (word_bytes word)
unless (Some m) word = Err (NoWord m)

abbrev pub code : Instruction → Order → Result (List ℕ) Fault
code i order = unless (misfit i) (marked i order (encode i))

-- whether a word is a number of so many bytes, with or without a sign
abbrev pub narrow : Width → ℕ → Bool
narrow Byte x = nat_lt x (2 ^ 8) || nat_le (2 ^ 32 - 2 ^ 7) x
narrow Half x = nat_lt x (2 ^ 16) || nat_le (2 ^ 32 - 2 ^ 15) x
narrow Word x = true

-- the low bytes of a number
abbrev pub stored : Width → ℕ → Result (List ℕ) Fault
stored width x = cond (narrow width x) (Ok (take (count width) (word_bytes x))) (Err TooWide)

-- what lies between statements: 0x13 at a multiple of 4, else 0, so that each whole word is a NOP
abbrev pub filler : ℕ → ℕ
filler address = cond (address % 4 == 0) 0x13 0

unfoldable pub padding : ℕ → ℕ → List ℕ
padding address zero = []
padding address (suc n) = filler address ∷ padding (address + 1) n

-- the bytes of a statement, wherever it stands
abbrev pub piece : List ℕ → ℕ → Statement → Result (List ℕ) Fault
piece values here (Label symbol) = Ok []
piece values here (Code instruction order operand) = code (with_operand values here instruction operand) order
piece values here (Data width operand) = stored width (value_of values here operand)
piece values here (Align bits) = Ok (padding here (aligned here bits - here))
piece values here (Origin address) = Ok []

-- the bytes, or the fault: of its place, else of its bytes
abbrev pub after_place : Result ℕ Fault → Result (List ℕ) Fault → Result (List ℕ) Fault
after_place (Ok address) bytes = bytes
after_place (Err fault) bytes = Err fault

abbrev pub outcome : ℕ → List ℕ → ℕ → Statement → Result (List ℕ) Fault
outcome size values here s = after_place (placed size here s) (piece values here s)

-- 4. Memory, and the faults.

-- memory with these bytes from an address on
unfoldable pub written : ℕ → List ℕ → List ℕ → List ℕ
written address [] memory = memory
written address (b ∷ bytes) memory = written (address + 1) bytes (slice_set memory address b)

-- the bytes of a statement; one at fault has none
abbrev pub bytes_in : Result (List ℕ) Fault → List ℕ
bytes_in (Ok bytes) = bytes
bytes_in (Err fault) = []

-- memory with the bytes of all statements, from an address on; likewise the faults, from number k on
unfoldable pub laid_from : ℕ → List ℕ → ℕ → List Statement → List ℕ → List ℕ
laid_from size values here [] memory = memory
laid_from size values here (s ∷ rest) memory = laid_from size values (next size here s) rest (written here (bytes_in (outcome size values here s)) memory)

-- the fault of statement k, if it has one
abbrev pub fault_at : ℕ → Option Fault → List Located
fault_at k None = []
fault_at k (Some fault) = record { index = k; fault = fault } ∷ []

unfoldable pub faults_from : ℕ → List ℕ → ℕ → ℕ → List Statement → List Located
faults_from size values k here [] = []
faults_from size values k here (s ∷ rest) = fault_at k (result_err (outcome size values here s)) ++ faults_from size values (k + 1) (next size here s) rest

-- a memory of so many lines of 32 bytes
abbrev pub size_of : ℕ → ℕ
size_of lines = 32 * lines

-- all statements written into zeros, and all that is wrong with them
abbrev pub laid : ℕ → ℕ → List Statement → List ℕ
laid size symbols statements = laid_from size (values_of size symbols statements) 0 statements (replicate size 0)

abbrev pub faults_of : ℕ → ℕ → List Statement → List Located
faults_of size symbols statements = faults_from size (values_of size symbols statements) 0 0 statements
