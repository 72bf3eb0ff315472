-- What holds of all that the tables of decoding give holds of what a word decodes to.
use Rattle.std.proofs.Common.{◌≡◌, ℕ, true, false, eqb, [], ◌∷◌, None, refl, ap}
use Rattle.std.proofs.lemmas.Bool.{cond_both, eqb-true}
use Rattle.rv32.specs.Decode.{Table, amo_words, amos, branches, decode, fences, funct3, funct5, funct7, immediate_b, immediate_i, immediate_j, immediate_s, immediate_u, jalrs, left_shifts, loads, op_imms, opcode, opcodes, ops, other_ops, plain_ops, rd, right_shifts, rs1, rs2, select, stores, systems}
use Rattle.rv32.specs.declared.instruction.Instruction.{Instruction}
use Rattle.rv32.specs.declared.instruction.Instruction.TheVariants.{Lui, Auipc, Jal, Jalr, Branch, Load, Store, OpImm, Op, Amo, Fence, Ecall, Ebreak, Mret, Illegal}
use Rattle.rv32.specs.declared.instruction.BranchKind.{BranchKind}
use Rattle.rv32.specs.declared.instruction.BranchKind.TheVariants.{Beq, Bne, Blt, Bge, Bltu, Bgeu}
use Rattle.rv32.specs.declared.instruction.LoadKind.{LoadKind}
use Rattle.rv32.specs.declared.instruction.LoadKind.TheVariants.{Lb, Lh, Lw, Lbu, Lhu}
use Rattle.rv32.specs.declared.instruction.StoreKind.{StoreKind}
use Rattle.rv32.specs.declared.instruction.StoreKind.TheVariants.{Sb, Sh, Sw}
use Rattle.rv32.specs.declared.instruction.Operation.{Operation}
use Rattle.rv32.specs.declared.instruction.Operation.TheVariants.{Add, Sub, Sll, Slt, Sltu, Xor, Srl, Sra, Or, And}
use Rattle.rv32.specs.declared.instruction.AmoKind.{AmoKind}
use Rattle.rv32.specs.declared.instruction.AmoKind.TheVariants.{AmoAdd, AmoSwap}
use Rattle.encode.specs.Encode.{operation_fault, shifts}

-- what a word with a given opcode decodes to
pub at_opcode : (w op : ℕ) → opcode w ≡ op → decode w ≡ select op (opcodes w)
unfolding decode
at_opcode w op e = ap (λ n. select n (opcodes w)) e

-- P holds of each entry, where n is the number beside it
abbrev Entries : (Instruction → Type 0) → ℕ → Table → Type 0
Entries P n [] = P Illegal
Entries P n (e ∷ table) = (n ≡ e.0 → P e.1) × Entries P n table

selected : (P : Instruction → Type 0) (n : ℕ) (table : Table) → Entries P n table → P (select n table)
selected P n [] h = h
selected P n (e ∷ table) h = cond_both (eqb n e.0) e.1 (select n table) P (λ t. h.0 (eqb-true n e.0 t)) (λ _. selected P n table h.1)

-- P holds of all that a word can be
pub record Each (P : Instruction → Type 0) (w : ℕ) : Type 0 where
  pub lui : P (Lui (rd w) (immediate_u w))
  pub auipc : P (Auipc (rd w) (immediate_u w))
  pub jal : P (Jal (rd w) (immediate_j w))
  pub jalr : P (Jalr (rd w) (rs1 w) (immediate_i w))
  pub branch : (k : BranchKind) → P (Branch k (rs1 w) (rs2 w) (immediate_b w))
  pub load : (k : LoadKind) → P (Load k (rd w) (rs1 w) (immediate_i w))
  pub store : (k : StoreKind) → P (Store k (rs1 w) (rs2 w) (immediate_s w))
  pub immediate : (o : Operation) → operation_fault o ≡ None → shifts o ≡ false → P (OpImm o (rd w) (rs1 w) (immediate_i w))
  pub shift : (o : Operation) → operation_fault o ≡ None → shifts o ≡ true → P (OpImm o (rd w) (rs1 w) (rs2 w))
  pub op : (o : Operation) → P (Op o (rd w) (rs1 w) (rs2 w))
  pub amo : opcode w ≡ 0x2f → (k : AmoKind) → P (Amo k (rd w) (rs1 w) (rs2 w))
  pub fence : P Fence
  pub ecall : P Ecall
  pub ebreak : P Ebreak
  pub mret : P Mret
  pub illegal : P Illegal

of_branches : (P : Instruction → Type 0) (w : ℕ) → Each P w → P (select (funct3 w) (branches w))
of_branches P w h =
    let b = h.branch in
    selected P (funct3 w) (branches w)
    (λ _. b Beq, (λ _. b Bne, (λ _. b Blt, (λ _. b Bge, (λ _. b Bltu, (λ _. b Bgeu, h.illegal))))))

of_loads : (P : Instruction → Type 0) (w : ℕ) → Each P w → P (select (funct3 w) (loads w))
of_loads P w h =
    let l = h.load in
    selected P (funct3 w) (loads w) (λ _. l Lb, (λ _. l Lh, (λ _. l Lw, (λ _. l Lbu, (λ _. l Lhu, h.illegal)))))

of_stores : (P : Instruction → Type 0) (w : ℕ) → Each P w → P (select (funct3 w) (stores w))
of_stores P w h = let s = h.store in selected P (funct3 w) (stores w) (λ _. s Sb, (λ _. s Sh, (λ _. s Sw, h.illegal)))

of_op_imms : (P : Instruction → Type 0) (w : ℕ) → Each P w → P (select (funct3 w) (op_imms w))
of_op_imms P w h =
    let i : (o : Operation) → operation_fault o ≡ None → shifts o ≡ false → P (OpImm o (rd w) (rs1 w) (immediate_i w)) = h.immediate in
    let left : P (select (funct7 w) (left_shifts w)) = selected P (funct7 w) (left_shifts w) (λ _. h.shift Sll refl refl, h.illegal) in
    let right : P (select (funct7 w) (right_shifts w))
    = selected P (funct7 w) (right_shifts w) (λ _. h.shift Srl refl refl, (λ _. h.shift Sra refl refl, h.illegal)) in
    selected P (funct3 w) (op_imms w)
    (λ _. i Add refl refl, (λ _. i Slt refl refl, (λ _. i Sltu refl refl, (λ _. i Xor refl refl, (λ _. i Or refl refl, (λ _. i And refl refl, (λ _. left, (λ _. right, h.illegal))))))))

of_ops : (P : Instruction → Type 0) (w : ℕ) → Each P w → P (select (funct7 w) (ops w))
of_ops P w h =
    let o = h.op in
    let plain : P (select (funct3 w) (plain_ops w))
    = selected P (funct3 w) (plain_ops w) (λ _. o Add, (λ _. o Sll, (λ _. o Slt, (λ _. o Sltu, (λ _. o Xor, (λ _. o Srl, (λ _. o Or, (λ _. o And, h.illegal)))))))) in
    let other : P (select (funct3 w) (other_ops w)) = selected P (funct3 w) (other_ops w) (λ _. o Sub, (λ _. o Sra, h.illegal)) in
    selected P (funct7 w) (ops w) (λ _. plain, (λ _. other, h.illegal))

of_amos : (P : Instruction → Type 0) (w : ℕ) → Each P w → opcode w ≡ 0x2f → P (select (funct3 w) (amos w))
of_amos P w h e =
    selected P (funct3 w) (amos w)
    (λ _. selected P (funct5 w) (amo_words w) (λ _. h.amo e AmoAdd, (λ _. h.amo e AmoSwap, h.illegal)), h.illegal)

pub decoded : (P : Instruction → Type 0) (w : ℕ) → Each P w → P (decode w)
unfolding decode
decoded P w h =
    let jalr-row : P (select (funct3 w) (jalrs w)) = selected P (funct3 w) (jalrs w) (λ _. h.jalr, h.illegal) in
    let fence-row : P (select (funct3 w) fences) = selected P (funct3 w) fences (λ _. h.fence, h.illegal) in
    let system-row : P (select w systems) = selected P w systems (λ _. h.ecall, (λ _. h.ebreak, (λ _. h.mret, h.illegal))) in
    selected P (opcode w) (opcodes w) (
      λ _. h.lui,
      (
        λ _. h.auipc,
        (
          λ _. h.jal,
          (
            λ _. jalr-row,
            (
              λ _. of_branches P w h,
              (
                λ _. of_loads P w h,
                (
                  λ _. of_stores P w h,
                  (λ _. of_op_imms P w h, (λ _. of_ops P w h, (λ _. fence-row, (λ _. system-row, (λ e. of_amos P w h e, h.illegal))))),
                ),
              ),
            ),
          ),
        ),
      ),
    )
