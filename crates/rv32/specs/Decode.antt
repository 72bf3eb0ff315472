-- Which instruction a word is: the immediates, and the opcode maps of RV32I, of AMOADD.W and AMOSWAP.W, and MRET.
-- Assumes nothing: these are definitions.
use Rattle.std.specs.Prelude.{ℕ, ◌+◌, ◌*◌, ◌^◌, cond, List, [], ◌∷◌, ◌==◌}
use Rattle.words.specs.Word.{field, extend}
use Rattle.rv32.specs.declared.instruction.Instruction.{Instruction}
use Rattle.rv32.specs.declared.instruction.Instruction.TheVariants.{Lui, Auipc, Jal, Jalr, Branch, Load, Store, OpImm, Op, Amo, Fence, Ecall, Ebreak, Mret, Illegal}
use Rattle.rv32.specs.declared.instruction.BranchKind.{BranchKind}
use Rattle.rv32.specs.declared.instruction.BranchKind.TheVariants.{Beq, Bne, Blt, Bge, Bltu, Bgeu}
use Rattle.rv32.specs.declared.instruction.LoadKind.{LoadKind}
use Rattle.rv32.specs.declared.instruction.LoadKind.TheVariants.{Lb, Lh, Lw, Lbu, Lhu}
use Rattle.rv32.specs.declared.instruction.StoreKind.{StoreKind}
use Rattle.rv32.specs.declared.instruction.StoreKind.TheVariants.{Sb, Sh, Sw}
use Rattle.rv32.specs.declared.instruction.Operation.{Operation}
use Rattle.rv32.specs.declared.instruction.Operation.TheVariants.{Add, Sub, Sll, Slt, Sltu, Xor, Srl, Sra, Or, And}
use Rattle.rv32.specs.declared.instruction.AmoKind.TheVariants.{AmoAdd, AmoSwap}

-- the fields of an instruction word
abbrev pub opcode : ℕ → ℕ
opcode word = field word 0 7

abbrev pub rd : ℕ → ℕ
rd word = field word 7 5

abbrev pub funct3 : ℕ → ℕ
funct3 word = field word 12 3

abbrev pub rs1 : ℕ → ℕ
rs1 word = field word 15 5

abbrev pub rs2 : ℕ → ℕ
rs2 word = field word 20 5

abbrev pub funct7 : ℕ → ℕ
funct7 word = field word 25 7

-- the five high bits of an atomic operation; the two bits below them are marks for order, which do nothing here
abbrev pub funct5 : ℕ → ℕ
funct5 word = field word 27 5

-- the immediates of the formats I, S, B, U and J
abbrev pub immediate_i : ℕ → ℕ
immediate_i word = extend 12 (field word 20 12)

abbrev pub immediate_s : ℕ → ℕ
immediate_s word = extend 12 (field word 25 7 * 2 ^ 5 + field word 7 5)

abbrev pub immediate_b : ℕ → ℕ
immediate_b word = extend 13 (field word 31 1 * 2 ^ 12 + field word 7 1 * 2 ^ 11 + field word 25 6 * 2 ^ 5 + field word 8 4 * 2)

abbrev pub immediate_u : ℕ → ℕ
immediate_u word = field word 12 20 * 2 ^ 12

abbrev pub immediate_j : ℕ → ℕ
immediate_j word = extend 21 (field word 31 1 * 2 ^ 20 + field word 12 8 * 2 ^ 12 + field word 20 1 * 2 ^ 11 + field word 21 10 * 2)

-- a table by a field of the word, and what stands in it beside n
abbrev pub Table : Type 0
Table = List (ℕ × Instruction)

abbrev pub select : ℕ → Table → Instruction
select n [] = Illegal
select n (entry ∷ table) = cond (n == entry.0) entry.1 (select n table)

-- by funct3
abbrev pub jalrs : ℕ → Table
jalrs word = (0, Jalr (rd word) (rs1 word) (immediate_i word)) ∷ []

abbrev pub branches : ℕ → Table
branches word =
    let by : BranchKind → Instruction = λ kind. Branch kind (rs1 word) (rs2 word) (immediate_b word) in
    (0, by Beq) ∷ (1, by Bne) ∷ (4, by Blt) ∷ (5, by Bge) ∷ (6, by Bltu) ∷ (7, by Bgeu) ∷ []

abbrev pub loads : ℕ → Table
loads word =
    let of : LoadKind → Instruction = λ kind. Load kind (rd word) (rs1 word) (immediate_i word) in
    (0, of Lb) ∷ (1, of Lh) ∷ (2, of Lw) ∷ (4, of Lbu) ∷ (5, of Lhu) ∷ []

abbrev pub stores : ℕ → Table
stores word =
    let of : StoreKind → Instruction = λ kind. Store kind (rs1 word) (rs2 word) (immediate_s word) in
    (0, of Sb) ∷ (1, of Sh) ∷ (2, of Sw) ∷ []

-- shifts by an immediate, by funct7; the amount stands where rs2 does
abbrev pub left_shifts : ℕ → Table
left_shifts word = (0, OpImm Sll (rd word) (rs1 word) (rs2 word)) ∷ []

abbrev pub right_shifts : ℕ → Table
right_shifts word = (0, OpImm Srl (rd word) (rs1 word) (rs2 word)) ∷ (32, OpImm Sra (rd word) (rs1 word) (rs2 word)) ∷ []

abbrev pub op_imms : ℕ → Table
op_imms word =
    let by : Operation → Instruction = λ o. OpImm o (rd word) (rs1 word) (immediate_i word) in
    (0, by Add) ∷ (2, by Slt) ∷ (3, by Sltu) ∷ (4, by Xor) ∷ (6, by Or) ∷ (7, by And)
    ∷ (1, select (funct7 word) (left_shifts word)) ∷ (5, select (funct7 word) (right_shifts word)) ∷ []

-- operations on two registers, by funct7 and then by funct3
abbrev pub plain_ops : ℕ → Table
plain_ops word =
    let by : Operation → Instruction = λ o. Op o (rd word) (rs1 word) (rs2 word) in
    (0, by Add) ∷ (1, by Sll) ∷ (2, by Slt) ∷ (3, by Sltu) ∷ (4, by Xor) ∷ (5, by Srl) ∷ (6, by Or) ∷ (7, by And) ∷ []

abbrev pub other_ops : ℕ → Table
other_ops word = (0, Op Sub (rd word) (rs1 word) (rs2 word)) ∷ (5, Op Sra (rd word) (rs1 word) (rs2 word)) ∷ []

abbrev pub ops : ℕ → Table
ops word = (0, select (funct3 word) (plain_ops word)) ∷ (32, select (funct3 word) (other_ops word)) ∷ []

abbrev pub fences : Table
fences = (0, Fence) ∷ []

-- by the whole word
abbrev pub systems : Table
systems = (0x00000073, Ecall) ∷ (0x00100073, Ebreak) ∷ (0x30200073, Mret) ∷ []

-- by funct3, which is 2 for words, and then by funct5
abbrev pub amo_words : ℕ → Table
amo_words word = (0, Amo AmoAdd (rd word) (rs1 word) (rs2 word)) ∷ (1, Amo AmoSwap (rd word) (rs1 word) (rs2 word)) ∷ []

abbrev pub amos : ℕ → Table
amos word = (2, select (funct5 word) (amo_words word)) ∷ []

-- by the opcode
abbrev pub opcodes : ℕ → Table
opcodes word =
    (0x37, Lui (rd word) (immediate_u word)) ∷ (0x17, Auipc (rd word) (immediate_u word)) ∷ (0x6f, Jal (rd word) (immediate_j word))
    ∷ (0x67, select (funct3 word) (jalrs word)) ∷ (0x63, select (funct3 word) (branches word)) ∷ (0x03, select (funct3 word) (loads word))
    ∷ (0x23, select (funct3 word) (stores word)) ∷ (0x13, select (funct3 word) (op_imms word)) ∷ (0x33, select (funct7 word) (ops word))
    ∷ (0x0f, select (funct3 word) fences) ∷ (0x73, select word systems) ∷ (0x2f, select (funct3 word) (amos word)) ∷ []

abbrev pub decode_rule : ℕ → Instruction
decode_rule word = select (opcode word) (opcodes word)

-- the same, shut: what other crates cite
unfoldable pub decode : ℕ → Instruction
decode word = decode_rule word
