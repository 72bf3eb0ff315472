-- The marks for order change nothing of what an atomic operation's word decodes to.
use Rattle.std.proofs.Common.{◌≡◌, ℕ, ◌+◌, ◌*◌, ◌%◌, ◌<◌, Bool, true, false, [], ◌∷◌, sym, ap, ◌∙◌, inl, inr, arith}
use Rattle.words.proofs.Bytes.{field_replaced}
use Rattle.words.proofs.Fields.{field_below}
use Rattle.words.specs.Word.{field}
use Rattle.rv32.specs.Arithmetic.{bit}
use Rattle.rv32.specs.Decode.{decode, funct3, funct5, opcode, rd, rs1, rs2, select}
use Rattle.rv32.specs.declared.instruction.AmoKind.{AmoKind}
use Rattle.rv32.specs.declared.instruction.AmoKind.TheVariants.{AmoAdd, AmoSwap}
use Rattle.rv32.specs.declared.instruction.Instruction.{Instruction}
use Rattle.rv32.specs.declared.instruction.Instruction.TheVariants.{Amo}
use Rattle.encode.proofs.RoundTrip.{parts}
use Rattle.encode.proofs.Tables.{at_opcode, decoded}
use Rattle.encode.specs.Encode.{with_order}
use Rattle.encode.specs.Laws.{Marked, SameAmo}
use Rattle.encode.specs.declared.order.Order.{Order}

-- only words of one opcode are atomic operations
amo_opcode : (w d s t : ℕ) (k : AmoKind) → decode w ≡ Amo k d s t → opcode w ≡ 0x2f
amo_opcode w d s t k =
    decoded (λ i. i ≡ Amo k d s t → opcode w ≡ 0x2f) w
    (record {
      lui = λ e. cc;
      auipc = λ e. cc;
      jal = λ e. cc;
      jalr = λ e. cc;
      branch = λ _ e. cc;
      load = λ _ e. cc;
      store = λ _ e. cc;
      immediate = λ _ _ _ e. cc;
      shift = λ _ _ _ e. cc;
      op = λ _ e. cc;
      amo = λ o _ _. o;
      fence = λ e. cc;
      ecall = λ e. cc;
      ebreak = λ e. cc;
      mret = λ e. cc;
      illegal = λ e. cc;
    })

-- what a word of that opcode decodes to, by the fields that it looks at
abbrev amo_of : ℕ → ℕ → ℕ → ℕ → ℕ → Instruction
amo_of f3 f5 d s t = select f3 ((2, select f5 ((0, Amo AmoAdd d s t) ∷ (1, Amo AmoSwap d s t) ∷ [])) ∷ [])

same_fields : (v w : ℕ) → funct3 v ≡ funct3 w → funct5 v ≡ funct5 w → rd v ≡ rd w → rs1 v ≡ rs1 w → rs2 v ≡ rs2 w →
    amo_of (funct3 v) (funct5 v) (rd v) (rs1 v) (rs2 v) ≡ amo_of (funct3 w) (funct5 w) (rd w) (rs1 w) (rs2 w)
same_fields v w a b c d e =
    ap (λ n. amo_of n (funct5 v) (rd v) (rs1 v) (rs2 v)) a ∙ ap (λ n. amo_of (funct3 w) n (rd v) (rs1 v) (rs2 v)) b
    ∙ ap (λ n. amo_of (funct3 w) (funct5 w) n (rs1 v) (rs2 v)) c ∙ ap (λ n. amo_of (funct3 w) (funct5 w) (rd w) n (rs2 v)) d
    ∙ ap (λ n. amo_of (funct3 w) (funct5 w) (rd w) (rs1 w) n) e

pub same_amo : (w : ℕ) (order : Order) → SameAmo w (with_order w order)
same_amo w order k d s t h =
    let v : ℕ = with_order w order in
    let stays = (field_replaced w 25 2 (bit order.acquire * 2 + bit order.release)).1 in
    let op : opcode w ≡ 0x2f = amo_opcode w d s t k h in
    at_opcode v 0x2f (stays 0 7 (inl (omega arith)) ∙ op)
    ∙ same_fields v w (stays 12 3 (inl (omega arith))) (stays 27 5 (inr (omega arith))) (stays 7 5 (inl (omega arith))) (stays 15 5 (inl (omega arith))) (stays 20 5 (inl (omega arith)))
    ∙ sym (at_opcode w 0x2f op) ∙ h

bit_below : (b : Bool) → bit b < 2
bit_below true = omega arith
bit_below false = omega arith

pub marked : (w : ℕ) (order : Order) → Marked order (with_order w order)
marked w order =
    let v : ℕ = with_order w order in
    let a = bit_below order.acquire in
    let r = bit_below order.release in
    let both : field v 25 2 ≡ (bit order.acquire * 2 + bit order.release) % 4 = (field_replaced w 25 2 (bit order.acquire * 2 + bit order.release)).0 in
    let split : field v 25 2 ≡ field v 26 1 * 2 + field v 25 1 = parts v 25 1 1 in
    (omega (arith, field_below v 25 1), omega (arith, field_below v 25 1))
