-- A word decodes to the instruction that it was made of.
use Rattle.std.proofs.Common.{◌≡◌, ℕ, ◌+◌, ◌-◌, ◌*◌, ◌/◌, ◌%◌, ◌^◌, ◌<◌, Bool, true, false, cond, eqb, ltb, List, [], ◌∷◌, Some, None, Option, refl, ap, ◌∙◌, arith}
use native.Mathlib.Nat.{mod-mod}
use Rattle.std.proofs.lemmas.Nat.{mod-pow-add, shr-shr}
use Rattle.std.proofs.lemmas.Bool.{and_parts, eqb-true, ltb-true}
use Rattle.words.specs.Word.{field, extend}
use Rattle.rv32.specs.Decode.{decode, funct3, funct5, funct7, immediate_b, immediate_i, immediate_j, immediate_s, immediate_u, opcode, opcodes, rd, rs1, rs2, select}
use Rattle.rv32.specs.declared.instruction.Instruction.{Instruction}
use Rattle.rv32.specs.declared.instruction.Instruction.TheVariants.{Lui, Auipc, Jal, Jalr, Branch, Load, Store, OpImm, Op, Amo, Fence, Ecall, Ebreak, Mret, Illegal}
use Rattle.rv32.specs.declared.instruction.BranchKind.{BranchKind}
use Rattle.rv32.specs.declared.instruction.StoreKind.{StoreKind}
use Rattle.rv32.specs.declared.instruction.Operation.{Operation}
use Rattle.rv32.specs.declared.instruction.Operation.TheVariants.{Add, Sub, Sll, Slt, Sltu, Xor, Srl, Sra, Or, And}
use Rattle.encode.proofs.Tables.{at_opcode}
use Rattle.encode.specs.Encode.{amo_code, branch_code, load_code, operation_code, operation_high, store_code}
use Rattle.encode.specs.Encode.{b_type, branch_fault, encode, first, i_type, immediate_fault, is_offset, j_type, jump_fault, misfit, r_type, register_fault, s_type, shift_fault, u_type, unless, upper_fault}
use Rattle.encode.specs.Laws.{RoundTrip}
use Rattle.encode.specs.declared.misfit.Misfit.{Misfit}
use Rattle.encode.specs.declared.misfit.Misfit.TheVariants.{BranchOffset, JumpOffset}

-- where there is no fault there is none at any operand
none_first : (a : Option Misfit) (rest : List (Option Misfit)) → first (a ∷ rest) ≡ None → (a ≡ None) × (first rest ≡ None)
none_first None rest h = (refl, h)
none_first (Some m) rest h = let z : ◌≡◌ {A = ℕ} 0 1 = cc in absurd (omega arith)

passed : (b : Bool) (m : Misfit) → unless b m ≡ None → b ≡ true
passed true m h = refl
passed false m h = let z : ◌≡◌ {A = ℕ} 0 1 = cc in absurd (omega arith)

-- the fields of a word of format R are what it was made of
record Fields (w f7 t s f3 d op : ℕ) : Type 0 where
  within : w < 2 ^ 32
  op_is : opcode w ≡ op
  d_is : rd w ≡ d
  f3_is : funct3 w ≡ f3
  s_is : rs1 w ≡ s
  t_is : rs2 w ≡ t
  f7_is : funct7 w ≡ f7

r_fields : (f7 t s f3 d op : ℕ) → f7 < 2 ^ 7 → t < 2 ^ 5 → s < 2 ^ 5 → f3 < 2 ^ 3 → d < 2 ^ 5 → op < 2 ^ 7 → Fields (r_type f7 t s f3 d op) f7 t s f3 d op
r_fields f7 t s f3 d op h7 ht hs h3 hd ho =
    record { within = omega arith; op_is = omega arith; d_is = omega arith; f3_is = omega arith; s_is = omega arith; t_is = omega arith; f7_is = omega arith }

-- a field is its high part and its low part
pub parts : (w low m n : ℕ) → field w low (m + n) ≡ field w (low + n) m * 2 ^ n + field w low n
parts w low m n = mod-pow-add (w / 2 ^ low) m n ∙ ap (λ v. v % 2 ^ m * 2 ^ n + field w low n) (shr-shr w low n)

-- sign extension looks at the low bits only
pub same_extended : (size x y : ℕ) → x % 2 ^ size ≡ y % 2 ^ size → extend size x ≡ extend size y
same_extended size x y e = ap (λ n. cond (ltb n (2 ^ (size - 1))) n (n + (2 ^ 32 - 2 ^ size))) e

extend_low_bits : (size x : ℕ) → extend size (x % 2 ^ size) ≡ extend size x
extend_low_bits size x = same_extended size (x % 2 ^ size) x (mod-mod x (2 ^ size))

-- an operand that has no fault
register_below : (n : ℕ) → register_fault n ≡ None → n < 2 ^ 5
register_below n h = ltb-true n 32 (passed _ _ h)

immediate_same : (x : ℕ) → immediate_fault x ≡ None → extend 12 x ≡ x
immediate_same x h = eqb-true (extend 12 x) x (passed _ _ h)

offset_same : (size x : ℕ) (m : Misfit) → unless (is_offset size x) m ≡ None → (x % 2 ≡ 0) × (extend size x ≡ x)
offset_same size x m h =
    let p = and_parts (eqb (x % 2) 0) (eqb (extend size x) x) (passed _ _ h) in
    (eqb-true (x % 2) 0 p.0, eqb-true (extend size x) x p.1)

-- the other formats
record IFields (w x s f3 d op : ℕ) : Type 0 where
  within : w < 2 ^ 32
  op_is : opcode w ≡ op
  d_is : rd w ≡ d
  f3_is : funct3 w ≡ f3
  s_is : rs1 w ≡ s
  x_is : immediate_i w ≡ x

i_fields : (x s f3 d op : ℕ) → immediate_fault x ≡ None → s < 2 ^ 5 → f3 < 2 ^ 3 → d < 2 ^ 5 → op < 2 ^ 7 → IFields (i_type x s f3 d op) x s f3 d op
i_fields x s f3 d op hx hs h3 hd ho =
    record {
      within = omega arith;
      op_is = omega arith;
      d_is = omega arith;
      f3_is = omega arith;
      s_is = omega arith;
      x_is = same_extended 12 (field (i_type x s f3 d op) 20 12) x (omega arith) ∙ immediate_same x hx;
    }

s_immediate : (x w : ℕ) → immediate_fault x ≡ None → funct7 w ≡ field x 5 7 → rd w ≡ field x 0 5 → immediate_s w ≡ x
s_immediate x w hx h l = same_extended 12 (field w 25 7 * 2 ^ 5 + field w 7 5) x (omega arith) ∙ immediate_same x hx

-- an even number's low bits, from the parts that stand in a branch, and in a jump
branch_parts : (x : ℕ) → x % 2 ≡ 0 → field x 12 1 * 2 ^ 12 + field x 11 1 * 2 ^ 11 + field x 5 6 * 2 ^ 5 + field x 1 4 * 2 ≡ x % 2 ^ 13
branch_parts x h = omega (arith, mod-pow-add x 1 12, mod-pow-add x 1 11, mod-pow-add x 6 5, mod-pow-add x 4 1)

jump_parts : (x : ℕ) → x % 2 ≡ 0 → field x 20 1 * 2 ^ 20 + field x 12 8 * 2 ^ 12 + field x 11 1 * 2 ^ 11 + field x 1 10 * 2 ≡ x % 2 ^ 21
jump_parts x h = omega (arith, mod-pow-add x 1 20, mod-pow-add x 8 12, mod-pow-add x 1 11, mod-pow-add x 10 1)

b_immediate : (x w : ℕ) → branch_fault x ≡ None → funct7 w ≡ field x 12 1 * 2 ^ 6 + field x 5 6 → rd w ≡ field x 1 4 * 2 + field x 11 1 → immediate_b w ≡ x
b_immediate x w hx h l =
    let p = offset_same 13 x BranchOffset hx in
    let top : field w 31 1 ≡ field x 12 1 = omega (arith, parts w 25 1 6) in
    let next : field w 7 1 ≡ field x 11 1 = omega (arith, parts w 7 4 1) in
    let high : field w 25 6 ≡ field x 5 6 = omega (arith, parts w 25 1 6) in
    let low : field w 8 4 ≡ field x 1 4 = omega (arith, parts w 7 4 1) in
    let sum : field w 31 1 * 2 ^ 12 + field w 7 1 * 2 ^ 11 + field w 25 6 * 2 ^ 5 + field w 8 4 * 2 ≡ x % 2 ^ 13 = cc (branch_parts x p.0) in
    ap (extend 13) sum ∙ extend_low_bits 13 x ∙ p.1

record UFields (w x d op : ℕ) : Type 0 where
  within : w < 2 ^ 32
  op_is : opcode w ≡ op
  d_is : rd w ≡ d
  x_is : immediate_u w ≡ x

u_fields : (x d op : ℕ) → upper_fault x ≡ None → d < 2 ^ 5 → op < 2 ^ 7 → UFields (u_type x d op) x d op
u_fields x d op hx hd ho =
    let same : field x 12 20 * 2 ^ 12 ≡ x = eqb-true (field x 12 20 * 2 ^ 12) x (passed _ _ hx) in
    record { within = omega arith; op_is = omega arith; d_is = omega arith; x_is = omega arith }

record JFields (w a b c e d op : ℕ) : Type 0 where
  within : w < 2 ^ 32
  op_is : opcode w ≡ op
  d_is : rd w ≡ d
  e_is : field w 12 8 ≡ e
  c_is : field w 20 1 ≡ c
  b_is : field w 21 10 ≡ b
  a_is : field w 31 1 ≡ a

j_fields : (a b c e d op : ℕ) → a < 2 ^ 1 → b < 2 ^ 10 → c < 2 ^ 1 → e < 2 ^ 8 → d < 2 ^ 5 → op < 2 ^ 7 →
    JFields (a * 2 ^ 31 + b * 2 ^ 21 + c * 2 ^ 20 + e * 2 ^ 12 + d * 2 ^ 7 + op) a b c e d op
j_fields a b c e d op ha hb hc he hd ho =
    record { within = omega arith; op_is = omega arith; d_is = omega arith; e_is = omega arith; c_is = omega arith; b_is = omega arith; a_is = omega arith }

j_immediate : (x w d op : ℕ) → jump_fault x ≡ None → JFields w (field x 20 1) (field x 1 10) (field x 11 1) (field x 12 8) d op → immediate_j w ≡ x
j_immediate x w d op hx f =
    let p = offset_same 21 x JumpOffset hx in
    let sum : field w 31 1 * 2 ^ 20 + field w 12 8 * 2 ^ 12 + field w 20 1 * 2 ^ 11 + field w 21 10 * 2 ≡ x % 2 ^ 21 = cc (jump_parts x p.0) in
    ap (extend 21) sum ∙ extend_low_bits 21 x ∙ p.1

-- operands that have no fault, one after the other
one_fits : (a : Option Misfit) → first (a ∷ []) ≡ None → a ≡ None
one_fits a h = (none_first a [] h).0

two_fit : (a b : Option Misfit) → first (a ∷ b ∷ []) ≡ None → (a ≡ None) × (b ≡ None)
two_fit a b h = let p = none_first a (b ∷ []) h in (p.0, one_fits b p.1)

three_fit : (a b c : Option Misfit) → first (a ∷ b ∷ c ∷ []) ≡ None → (a ≡ None) × (b ≡ None) × (c ≡ None)
three_fit a b c h = let p = none_first a (b ∷ c ∷ []) h in let q = two_fit b c p.1 in (p.0, q.0, q.1)

-- a word, and what it decodes to
abbrev Back : ℕ → Instruction → Type 0
Back w i = (w < 2 ^ 32) × (decode w ≡ i)

upper_back : (op d x : ℕ) (i : Instruction) → op < 2 ^ 7 → first (register_fault d ∷ upper_fault x ∷ []) ≡ None →
    ((w : ℕ) → UFields w x d op → select op (opcodes w) ≡ i) → Back (u_type x d op) i
upper_back op d x i ho h row =
    let p = two_fit (register_fault d) (upper_fault x) h in
    let f : UFields (u_type x d op) x d op = u_fields x d op p.1 (register_below d p.0) ho in
    (f.within, at_opcode (u_type x d op) op f.op_is ∙ row _ f)

immediate_back : (op f3 d s x : ℕ) (i : Instruction) → op < 2 ^ 7 → f3 < 2 ^ 3 → first (register_fault d ∷ register_fault s ∷ immediate_fault x ∷ []) ≡ None →
    ((w : ℕ) → IFields w x s f3 d op → select op (opcodes w) ≡ i) → Back (i_type x s f3 d op) i
immediate_back op f3 d s x i ho h3 h row =
    let p = three_fit (register_fault d) (register_fault s) (immediate_fault x) h in
    let f : IFields (i_type x s f3 d op) x s f3 d op = i_fields x s f3 d op p.2 (register_below s p.1) h3 (register_below d p.0) ho in
    (f.within, at_opcode (i_type x s f3 d op) op f.op_is ∙ row _ f)

-- for the formats whose fields are those of format R
fields_back : (f7 t s f3 d op : ℕ) (i : Instruction) → f7 < 2 ^ 7 → t < 2 ^ 5 → s < 2 ^ 5 → f3 < 2 ^ 3 → d < 2 ^ 5 → op < 2 ^ 7 →
    ((w : ℕ) → Fields w f7 t s f3 d op → select op (opcodes w) ≡ i) → Back (r_type f7 t s f3 d op) i
fields_back f7 t s f3 d op i h7 ht hs h3 hd ho row =
    let f : Fields (r_type f7 t s f3 d op) f7 t s f3 d op = r_fields f7 t s f3 d op h7 ht hs h3 hd ho in
    (f.within, at_opcode (r_type f7 t s f3 d op) op f.op_is ∙ row _ f)

register_back : (f7 t s f3 d op : ℕ) (i : Instruction) → f7 < 2 ^ 7 → f3 < 2 ^ 3 → op < 2 ^ 7 → first (register_fault d ∷ register_fault s ∷ register_fault t ∷ []) ≡ None →
    ((w : ℕ) → Fields w f7 t s f3 d op → select op (opcodes w) ≡ i) → Back (r_type f7 t s f3 d op) i
register_back f7 t s f3 d op i h7 h3 ho h row =
    let p = three_fit (register_fault d) (register_fault s) (register_fault t) h in
    fields_back f7 t s f3 d op i h7 (register_below t p.2) (register_below s p.1) h3 (register_below d p.0) ho row

shift_back : (f7 x s f3 d : ℕ) (i : Instruction) → f7 < 2 ^ 7 → f3 < 2 ^ 3 → first (register_fault d ∷ register_fault s ∷ shift_fault x ∷ []) ≡ None →
    ((w : ℕ) → Fields w f7 x s f3 d 0x13 → select 0x13 (opcodes w) ≡ i) → Back (r_type f7 x s f3 d 0x13) i
shift_back f7 x s f3 d i h7 h3 h row =
    let p = three_fit (register_fault d) (register_fault s) (shift_fault x) h in
    fields_back f7 x s f3 d 0x13 i h7 (ltb-true x 32 (passed _ _ p.2)) (register_below s p.1) h3 (register_below d p.0) (omega arith) row

op_imm_back : (o : Operation) (d s x : ℕ) → misfit (OpImm o d s x) ≡ None → Back (encode (OpImm o d s x)) (OpImm o d s x)
unfolding encode misfit
op_imm_back Add d s x h = immediate_back 0x13 0 d s x (OpImm Add d s x) (omega arith) (omega arith) h (λ w f. grind arith)
op_imm_back Sub d s x h = let z : ◌≡◌ {A = ℕ} 0 1 = cc in absurd (omega arith)
op_imm_back Sll d s x h = shift_back 0 x s 1 d (OpImm Sll d s x) (omega arith) (omega arith) h (λ w f. grind arith)
op_imm_back Slt d s x h = immediate_back 0x13 2 d s x (OpImm Slt d s x) (omega arith) (omega arith) h (λ w f. grind arith)
op_imm_back Sltu d s x h = immediate_back 0x13 3 d s x (OpImm Sltu d s x) (omega arith) (omega arith) h (λ w f. grind arith)
op_imm_back Xor d s x h = immediate_back 0x13 4 d s x (OpImm Xor d s x) (omega arith) (omega arith) h (λ w f. grind arith)
op_imm_back Srl d s x h = shift_back 0 x s 5 d (OpImm Srl d s x) (omega arith) (omega arith) h (λ w f. grind arith)
op_imm_back Sra d s x h = shift_back 32 x s 5 d (OpImm Sra d s x) (omega arith) (omega arith) h (λ w f. grind arith)
op_imm_back Or d s x h = immediate_back 0x13 6 d s x (OpImm Or d s x) (omega arith) (omega arith) h (λ w f. grind arith)
op_imm_back And d s x h = immediate_back 0x13 7 d s x (OpImm And d s x) (omega arith) (omega arith) h (λ w f. grind arith)

branch_back : (k : BranchKind) (s t x : ℕ) → first (register_fault s ∷ register_fault t ∷ branch_fault x ∷ []) ≡ None → Back (b_type x t s (branch_code k) 0x63) (Branch k s t x)
branch_back k s t x h =
    let p = three_fit (register_fault s) (register_fault t) (branch_fault x) h in
    fields_back _ t s (branch_code k) _ 0x63 (Branch k s t x) (omega arith) (register_below t p.1) (register_below s p.0) (grind arith) (omega arith) (omega arith)
    (λ w f. let e : immediate_b w ≡ x = b_immediate x w p.2 f.f7_is f.d_is in grind arith)

store_back : (k : StoreKind) (s t x : ℕ) → first (register_fault s ∷ register_fault t ∷ immediate_fault x ∷ []) ≡ None → Back (s_type x t s (store_code k) 0x23) (Store k s t x)
store_back k s t x h =
    let p = three_fit (register_fault s) (register_fault t) (immediate_fault x) h in
    fields_back _ t s (store_code k) _ 0x23 (Store k s t x) (omega arith) (register_below t p.1) (register_below s p.0) (grind arith) (omega arith) (omega arith)
    (λ w f. let e : immediate_s w ≡ x = s_immediate x w p.2 f.f7_is f.d_is in grind arith)

jump_back : (d x : ℕ) → first (register_fault d ∷ jump_fault x ∷ []) ≡ None → Back (j_type x d 0x6f) (Jal d x)
jump_back d x h =
    let p = two_fit (register_fault d) (jump_fault x) h in
    let f : JFields (j_type x d 0x6f) (field x 20 1) (field x 1 10) (field x 11 1) (field x 12 8) d 0x6f
    = j_fields (field x 20 1) (field x 1 10) (field x 11 1) (field x 12 8) d 0x6f (omega arith) (omega arith) (omega arith) (omega arith) (register_below d p.0) (omega arith) in
    (f.within, at_opcode (j_type x d 0x6f) 0x6f f.op_is ∙ cc (f.d_is, j_immediate x (j_type x d 0x6f) d 0x6f p.1 f))

pub round_trip : RoundTrip
unfolding encode misfit decode
round_trip (Lui d x) h = upper_back 0x37 d x (Lui d x) (omega arith) h (λ w f. cc)
round_trip (Auipc d x) h = upper_back 0x17 d x (Auipc d x) (omega arith) h (λ w f. cc)
round_trip (Jal d x) h = jump_back d x h
round_trip (Jalr d s x) h = immediate_back 0x67 0 d s x (Jalr d s x) (omega arith) (omega arith) h (λ w f. grind arith)
round_trip (Branch k s t x) h = branch_back k s t x h
round_trip (Load k d s x) h = immediate_back 0x03 (load_code k) d s x (Load k d s x) (omega arith) (grind arith) h (λ w f. grind arith)
round_trip (Store k s t x) h = store_back k s t x h
round_trip (OpImm o d s x) h = op_imm_back o d s x h
round_trip (Op o d s t) h = register_back (operation_high o) t s (operation_code o) d 0x33 (Op o d s t) (grind arith) (grind arith) (omega arith) h (λ w f. grind arith)
round_trip (Amo k d s t) h = register_back (amo_code k * 2 ^ 2) t s 2 d 0x2f (Amo k d s t) (grind arith) (omega arith) (omega arith) h (λ w f. let e : funct5 w ≡ amo_code k = omega (arith, parts w 25 5 2) in grind arith)
round_trip Fence h = (omega arith, refl)
round_trip Ecall h = (omega arith, refl)
round_trip Ebreak h = (omega arith, refl)
round_trip Mret h = (omega arith, refl)
round_trip Illegal h = (omega arith, refl)
