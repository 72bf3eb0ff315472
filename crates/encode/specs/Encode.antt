-- The word of an instruction: the formats, the word of each instruction, and what keeps one from having a word.
-- Assumes nothing: these are definitions.
use Rattle.std.specs.Prelude.{◌≡◌, ℕ, ◌+◌, ◌*◌, ◌%◌, ◌^◌, Bool, true, false, cond, ◌&&◌, List, [], ◌∷◌, Some, None, Ok, Err, Option, Result, ◌==◌, nat_lt}
use Rattle.words.specs.Word.{field, extend, replace}
use Rattle.rv32.specs.Arithmetic.{bit}
use Rattle.rv32.specs.declared.instruction.Instruction.{Instruction}
use Rattle.rv32.specs.declared.instruction.Instruction.TheVariants.{Lui, Auipc, Jal, Jalr, Branch, Load, Store, OpImm, Op, Amo, Fence, Ecall, Ebreak, Mret, Illegal}
use Rattle.rv32.specs.declared.instruction.BranchKind.{BranchKind}
use Rattle.rv32.specs.declared.instruction.BranchKind.TheVariants.{Beq, Bne, Blt, Bge, Bltu, Bgeu}
use Rattle.rv32.specs.declared.instruction.LoadKind.{LoadKind}
use Rattle.rv32.specs.declared.instruction.LoadKind.TheVariants.{Lb, Lh, Lw, Lbu, Lhu}
use Rattle.rv32.specs.declared.instruction.StoreKind.{StoreKind}
use Rattle.rv32.specs.declared.instruction.StoreKind.TheVariants.{Sb, Sh, Sw}
use Rattle.rv32.specs.declared.instruction.Operation.{Operation}
use Rattle.rv32.specs.declared.instruction.Operation.TheVariants.{Add, Sub, Sll, Slt, Sltu, Xor, Srl, Sra, Or, And}
use Rattle.rv32.specs.declared.instruction.AmoKind.{AmoKind}
use Rattle.rv32.specs.declared.instruction.AmoKind.TheVariants.{AmoAdd, AmoSwap}
use Rattle.encode.specs.declared.misfit.Misfit.{Misfit}
use Rattle.encode.specs.declared.misfit.Misfit.TheVariants.{Register, Immediate, Shift, Upper, BranchOffset, JumpOffset, Operation as NoOperation}
use Rattle.encode.specs.declared.order.Order.{Order}

-- the formats R, I, S, B, U and J: fields from the highest to the lowest, and of an immediate x the bits that a format has
abbrev pub r_type : ℕ → ℕ → ℕ → ℕ → ℕ → ℕ → ℕ
r_type funct7 rs2 rs1 funct3 rd opcode = funct7 * 2 ^ 25 + rs2 * 2 ^ 20 + rs1 * 2 ^ 15 + funct3 * 2 ^ 12 + rd * 2 ^ 7 + opcode

-- bits 11 to 0
abbrev pub i_type : ℕ → ℕ → ℕ → ℕ → ℕ → ℕ
i_type x rs1 funct3 rd opcode = field x 0 12 * 2 ^ 20 + rs1 * 2 ^ 15 + funct3 * 2 ^ 12 + rd * 2 ^ 7 + opcode

-- bits 11 to 5 where R has funct7, bits 4 to 0 where it has rd
abbrev pub s_type : ℕ → ℕ → ℕ → ℕ → ℕ → ℕ
s_type x rs2 rs1 funct3 opcode = r_type (field x 5 7) rs2 rs1 funct3 (field x 0 5) opcode

-- bits 12 and 10 to 5 where R has funct7, bits 4 to 1 and 11 where it has rd
abbrev pub b_type : ℕ → ℕ → ℕ → ℕ → ℕ → ℕ
b_type x rs2 rs1 funct3 opcode = r_type (field x 12 1 * 2 ^ 6 + field x 5 6) rs2 rs1 funct3 (field x 1 4 * 2 + field x 11 1) opcode

-- bits 31 to 12
abbrev pub u_type : ℕ → ℕ → ℕ → ℕ
u_type x rd opcode = field x 12 20 * 2 ^ 12 + rd * 2 ^ 7 + opcode

-- bits 20, 10 to 1, 11, and 19 to 12
abbrev pub j_type : ℕ → ℕ → ℕ → ℕ
j_type x rd opcode = field x 20 1 * 2 ^ 31 + field x 1 10 * 2 ^ 21 + field x 11 1 * 2 ^ 20 + field x 12 8 * 2 ^ 12 + rd * 2 ^ 7 + opcode

-- funct3 of each kind; funct7 of an operation, and funct5 of an atomic one
abbrev pub branch_code : BranchKind → ℕ
branch_code Beq = 0
branch_code Bne = 1
branch_code Blt = 4
branch_code Bge = 5
branch_code Bltu = 6
branch_code Bgeu = 7

abbrev pub load_code : LoadKind → ℕ
load_code Lb = 0
load_code Lh = 1
load_code Lw = 2
load_code Lbu = 4
load_code Lhu = 5

abbrev pub store_code : StoreKind → ℕ
store_code Sb = 0
store_code Sh = 1
store_code Sw = 2

abbrev pub operation_code : Operation → ℕ
operation_code Add = 0
operation_code Sub = 0
operation_code Sll = 1
operation_code Slt = 2
operation_code Sltu = 3
operation_code Xor = 4
operation_code Srl = 5
operation_code Sra = 5
operation_code Or = 6
operation_code And = 7

abbrev pub operation_high : Operation → ℕ
operation_high Add = 0
operation_high Sub = 32
operation_high Sll = 0
operation_high Slt = 0
operation_high Sltu = 0
operation_high Xor = 0
operation_high Srl = 0
operation_high Sra = 32
operation_high Or = 0
operation_high And = 0

abbrev pub amo_code : AmoKind → ℕ
amo_code AmoAdd = 0
amo_code AmoSwap = 1

-- with an immediate, a shift has its amount where rs2 stands, and funct7 above it; any other operation has an immediate of 12 bits
abbrev pub shifts : Operation → Bool
shifts Add = false
shifts Sub = false
shifts Sll = true
shifts Slt = false
shifts Sltu = false
shifts Xor = false
shifts Srl = true
shifts Sra = true
shifts Or = false
shifts And = false

-- the word of an instruction. FENCE orders everything before it and everything after it; the word of zeros is defined to be illegal
abbrev pub encode_rule : Instruction → ℕ
encode_rule (Lui d x) = u_type x d 0x37
encode_rule (Auipc d x) = u_type x d 0x17
encode_rule (Jal d x) = j_type x d 0x6f
encode_rule (Jalr d s x) = i_type x s 0 d 0x67
encode_rule (Branch k s t x) = b_type x t s (branch_code k) 0x63
encode_rule (Load k d s x) = i_type x s (load_code k) d 0x03
encode_rule (Store k s t x) = s_type x t s (store_code k) 0x23
encode_rule (OpImm o d s x) =
    cond (shifts o) (r_type (operation_high o) x s (operation_code o) d 0x13) (i_type x s (operation_code o) d 0x13)
encode_rule (Op o d s t) = r_type (operation_high o) t s (operation_code o) d 0x33
encode_rule (Amo k d s t) = r_type (amo_code k * 2 ^ 2) t s 2 d 0x2f
encode_rule Fence = 0x0ff0000f
encode_rule Ecall = 0x00000073
encode_rule Ebreak = 0x00100073
encode_rule Mret = 0x30200073
encode_rule Illegal = 0

-- the same, shut: what other crates cite
unfoldable pub encode : Instruction → ℕ
encode i = encode_rule i

-- what is wrong with an operand, if anything. An immediate fits if decoding can give it
abbrev pub unless : Bool → Misfit → Option Misfit
unless fits m = cond fits None (Some m)

abbrev pub register_fault : ℕ → Option Misfit
register_fault n = unless (nat_lt n 32) Register

-- 0 to 2047, or 2 ^ 32 - 2048 to 2 ^ 32 - 1
abbrev pub immediate_fault : ℕ → Option Misfit
immediate_fault x = unless (extend 12 x == x) Immediate

abbrev pub shift_fault : ℕ → Option Misfit
shift_fault x = unless (nat_lt x 32) Shift

-- a multiple of 4096
abbrev pub upper_fault : ℕ → Option Misfit
upper_fault x = unless (field x 12 20 * 2 ^ 12 == x) Upper

-- how far a branch or a jump goes: an even number of so many bits, with its sign extended
abbrev pub is_offset : ℕ → ℕ → Bool
is_offset size x = x % 2 == 0 && extend size x == x

abbrev pub branch_fault : ℕ → Option Misfit
branch_fault x = unless (is_offset 13 x) BranchOffset

abbrev pub jump_fault : ℕ → Option Misfit
jump_fault x = unless (is_offset 21 x) JumpOffset

-- the first fault
abbrev pub first : List (Option Misfit) → Option Misfit
first [] = None
first (Some m ∷ rest) = Some m
first (None ∷ rest) = first rest

abbrev pub value_fault : Operation → ℕ → Option Misfit
value_fault o x = cond (shifts o) (shift_fault x) (immediate_fault x)

-- no instruction subtracts an immediate
abbrev pub operation_fault : Operation → Option Misfit
operation_fault Add = None
operation_fault Sub = Some NoOperation
operation_fault Sll = None
operation_fault Slt = None
operation_fault Sltu = None
operation_fault Xor = None
operation_fault Srl = None
operation_fault Sra = None
operation_fault Or = None
operation_fault And = None

-- what keeps an instruction from having a word: the first of its operands that does
abbrev pub misfit_rule : Instruction → Option Misfit
misfit_rule (Lui d x) = first (register_fault d ∷ upper_fault x ∷ [])
misfit_rule (Auipc d x) = first (register_fault d ∷ upper_fault x ∷ [])
misfit_rule (Jal d x) = first (register_fault d ∷ jump_fault x ∷ [])
misfit_rule (Jalr d s x) = first (register_fault d ∷ register_fault s ∷ immediate_fault x ∷ [])
misfit_rule (Branch k s t x) = first (register_fault s ∷ register_fault t ∷ branch_fault x ∷ [])
misfit_rule (Load k d s x) = first (register_fault d ∷ register_fault s ∷ immediate_fault x ∷ [])
misfit_rule (Store k s t x) = first (register_fault s ∷ register_fault t ∷ immediate_fault x ∷ [])
misfit_rule (OpImm o d s x) = first (operation_fault o ∷ register_fault d ∷ register_fault s ∷ value_fault o x ∷ [])
misfit_rule (Op o d s t) = first (register_fault d ∷ register_fault s ∷ register_fault t ∷ [])
misfit_rule (Amo k d s t) = first (register_fault d ∷ register_fault s ∷ register_fault t ∷ [])
misfit_rule Fence = None
misfit_rule Ecall = None
misfit_rule Ebreak = None
misfit_rule Mret = None
misfit_rule Illegal = None

-- the same, shut
unfoldable pub misfit : Instruction → Option Misfit
misfit i = misfit_rule i

-- a number that is given unless there is a fault, which is given otherwise
abbrev pub Gives : Option Misfit → ℕ → Result ℕ Misfit → Type 0
Gives fault x (Ok r) = (fault ≡ None) × (r ≡ x)
Gives fault x (Err m) = fault ≡ Some m

-- the marks of an atomic operation: bit 26 (aq) has later accesses wait for it, bit 25 (rl) has it wait for earlier ones
abbrev pub with_order : ℕ → Order → ℕ
with_order word order = replace word 25 2 (bit order.acquire * 2 + bit order.release)
