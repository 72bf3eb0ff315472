-- An instruction makes words of words, and x0 stays 0.
use Rattle.std.proofs.Common.{◌≡◌, ℕ, zero, suc, ◌*◌, ◌/◌, ◌%◌, ◌^◌, ◌<◌, Bool, true, false, cond, ◌&&◌, eqb, ltb, List, [], ◌∷◌, get_or, set, replicate, ℤ, pos, negsuc, sym, refl, ◌∙◌, subst, div-le_self, arith, length-set, get_or-set_other, w32, to_z, of_z}
use lib.Bits.{or_lt, xor_lt, and_lt}
use lib.Signed.{shr_z}
use Rattle.std.proofs.lemmas.Nat.{mod_below, pow_pos, shr_le}
use Rattle.std.proofs.lemmas.Int.{of_z-to_z}
use Rattle.std.proofs.lemmas.Bool.{eqb-false}
use Rattle.words.proofs.Fields.{extended, field_below, replace_fits}
use Rattle.words.specs.Word.{byte_at, field, half_at}
use Rattle.rv32.specs.Arithmetic.{add, signed_below, bit}
use Rattle.rv32.specs.Decode.{Table, amo_words, amos, branches, decode, fences, funct3, funct5, funct7, immediate_i, jalrs, left_shifts, loads as load-table, op_imms, opcode, opcodes, ops, other_ops, plain_ops, right_shifts, rs2, select, stores, systems}
use Rattle.rv32.specs.Execute.{at, combined, epc_address, execute, let_address, load_size, loaded, loads, next, operate, puts, reaches, register, returns, say_address, store_size, stored, swaps, tells, with_lets, with_register}
use Rattle.rv32.specs.Laws.{WellFormed, WellFormedEffect, KeepsWords, InterruptKeepsWords, StartsWithWords}
use Rattle.rv32.specs.declared.core_state.Core.{Core}
use Rattle.rv32.specs.declared.instruction.Instruction.{Instruction}
use Rattle.rv32.specs.declared.instruction.Instruction.TheVariants.{Lui, Auipc, Jal, Jalr, Branch, Load, Store, OpImm, Op, Amo, Fence, Ecall, Ebreak, Mret, Illegal}
use Rattle.rv32.specs.declared.instruction.LoadKind.{LoadKind}
use Rattle.rv32.specs.declared.instruction.LoadKind.TheVariants.{Lb, Lh, Lw, Lbu, Lhu}
use Rattle.rv32.specs.declared.instruction.StoreKind.{StoreKind}
use Rattle.rv32.specs.declared.instruction.StoreKind.TheVariants.{Sb, Sh, Sw}
use Rattle.rv32.specs.declared.instruction.Operation.{Operation}
use Rattle.rv32.specs.declared.instruction.Operation.TheVariants.{Add, Sub, Sll, Slt, Sltu, Xor, Srl, Sra, Or, And}
use Rattle.rv32.specs.declared.instruction.AmoKind.{AmoKind}
use Rattle.rv32.specs.declared.instruction.AmoKind.TheVariants.{AmoAdd, AmoSwap}

-- what holds of both ways of a test, and of all entries of a table
both : {A : Type 0} (P : A → Type 0) (b : Bool) (u v : A) → (b ≡ true → P u) → (b ≡ false → P v) → P (cond b u v)
both P true u v p q = p refl
both P false u v p q = q refl

abbrev Entries : (Instruction → Type 0) → Table → Type 0
Entries P [] = Unit {0}
Entries P (e ∷ table) = P e.1 × Entries P table

in_table : (P : Instruction → Type 0) (n : ℕ) (table : Table) → Entries P table → P Illegal → P (select n table)
in_table P n [] h p = p
in_table P n (e ∷ table) h p = both P (eqb n e.0) e.1 (select n table) (λ _. h.0) (λ _. in_table P n table h.1 p)

-- words
bit_below : (b : Bool) → bit b < 2 ^ 32
bit_below true = omega arith
bit_below false = omega arith

shifted_below : (z : ℤ) (m : ℕ) → of_z w32 z < 2 ^ 32 → of_z w32 (shr_z z m) < 2 ^ 32
shifted_below (pos n) m h = omega (arith, div-le_self n m)
shifted_below (negsuc n) m h = omega arith

operate_below : (o : Operation) (x y : ℕ) → x < 2 ^ 32 → y < 2 ^ 32 → operate o x y < 2 ^ 32
operate_below Add x y h k = omega arith
operate_below Sub x y h k = omega arith
operate_below Sll x y h k = mod_below (x * 2 ^ (y % 32)) (2 ^ 32) (pow_pos 32)
operate_below Slt x y h k = bit_below (signed_below x y)
operate_below Sltu x y h k = bit_below (ltb x y)
operate_below Xor x y h k = xor_lt 32 x y h k
operate_below Srl x y h k = omega (arith, shr_le x (y % 32))
operate_below Sra x y h k = shifted_below (to_z w32 x) (2 ^ (y % 32)) (subst (λ n. n < 2 ^ 32) (sym (of_z-to_z w32 x h)) h)
operate_below Or x y h k = or_lt 32 x y h k
operate_below And x y h k = and_lt 32 x y h k

loaded_below : (k : LoadKind) (a word : ℕ) → word < 2 ^ 32 → loaded k a word < 2 ^ 32
loaded_below Lb a word h = (extended 8 (byte_at word a) (omega arith) (omega arith)).1
loaded_below Lh a word h = (extended 16 (half_at word a) (omega arith) (omega arith)).1
loaded_below Lw a word h = h
loaded_below Lbu a word h = omega (arith, field_below word (8 * (a % 4)) 8)
loaded_below Lhu a word h = omega (arith, field_below word (16 * (a / 2 % 2)) 16)

stored_below : (k : StoreKind) (a word x : ℕ) → word < 2 ^ 32 → x < 2 ^ 32 → stored k a word x < 2 ^ 32
stored_below Sb a word x h g = replace_fits word (8 * (a % 4)) 8 x h (omega arith)
stored_below Sh a word x h g = replace_fits word (16 * (a / 2 % 2)) 16 x h (omega arith)
stored_below Sw a word x h g = g

combined_below : (k : AmoKind) (word x : ℕ) → x < 2 ^ 32 → combined k word x < 2 ^ 32
combined_below AmoAdd word x h = omega arith
combined_below AmoSwap word x h = h

-- registers
set_below : (l : List ℕ) (i x : ℕ) → ((k : ℕ) → get_or l k 0 < 2 ^ 32) → x < 2 ^ 32 → (k : ℕ) → get_or (set l i x) k 0 < 2 ^ 32
set_below [] i x h g k = h k
set_below (y ∷ l) zero x h g zero = g
set_below (y ∷ l) zero x h g (suc k) = h (suc k)
set_below (y ∷ l) (suc i) x h g zero = h zero
set_below (y ∷ l) (suc i) x h g (suc k) = set_below l i x (λ j. h (suc j)) g k

zeros_below : (n k : ℕ) → get_or (replicate n 0) k 0 < 2 ^ 32
zeros_below zero k = omega arith
zeros_below (suc n) zero = omega arith
zeros_below (suc n) (suc k) = zeros_below n k

module _ (c : Core) (w : WellFormed c) where
  register_below : (n : ℕ) → register c n < 2 ^ 32
  register_below n = both (λ v. v < 2 ^ 32) (eqb n 0) 0 (get_or c.registers n 0) (λ _. omega arith) (λ _. w.each n)

  with_words : (n x : ℕ) → x < 2 ^ 32 → WellFormed (with_register c n x)
  with_words n x h =
      both WellFormed (eqb n 0) c _ (λ _. w)
      (λ e. record {
        counter = w.counter;
        resume = w.resume;
        count = length-set c.registers n x ∙ w.count;
        each = set_below c.registers n x w.each h;
        zero = get_or-set_other c.registers n 0 x 0 (λ z. eqb-false n 0 e (sym z)) ∙ w.zero;
      })

  at_words : (a : ℕ) → a < 2 ^ 32 → WellFormed (at c a)
  at_words a h = record { counter = h; resume = w.resume; count = w.count; each = w.each; zero = w.zero }

  lets_words : (b : Bool) → WellFormed (with_lets c b)
  lets_words b = record { counter = w.counter; resume = w.resume; count = w.count; each = w.each; zero = w.zero }

  returns_words : WellFormed (returns c)
  returns_words = record { counter = w.resume; resume = w.resume; count = w.count; each = w.each; zero = w.zero }

  next_words : WellFormed (next c)
  next_words = at_words (add c.pc 4) (omega arith)

pub interrupt_keeps_words : InterruptKeepsWords
interrupt_keeps_words c w = record { counter = omega arith; resume = w.counter; count = w.count; each = w.each; zero = w.zero }

pub starts_with_words : StartsWithWords
starts_with_words k h =
    record { counter = omega arith; resume = omega arith; count = refl; each = set_below (replicate 32 0) 10 k (zeros_below 32) h; zero = refl }

-- an instruction's immediate is a word
abbrev Small : Instruction → Type 0
Small (Lui d x) = x < 2 ^ 32
Small (Auipc d x) = Unit {0}
Small (Jal d x) = Unit {0}
Small (Jalr d s x) = Unit {0}
Small (Branch k s t x) = Unit {0}
Small (Load k d s x) = Unit {0}
Small (Store k s t x) = Unit {0}
Small (OpImm o d s x) = x < 2 ^ 32
Small (Op o d s t) = Unit {0}
Small (Amo k d s t) = Unit {0}
Small Fence = Unit {0}
Small Ecall = Unit {0}
Small Ebreak = Unit {0}
Small Mret = Unit {0}
Small Illegal = Unit {0}

small : (n : ℕ) (table : Table) → Entries Small table → Small (select n table)
small n table h = in_table Small n table h tt

op_imms_small : (word : ℕ) → Entries Small (op_imms word)
op_imms_small word =
    let i : immediate_i word < 2 ^ 32 = (extended 12 (field word 20 12) (omega arith) (omega arith)).1 in
    let f : rs2 word < 2 ^ 32 = omega (arith, field_below word 20 5) in
    (i, (i, (i, (i, (i, (i, (small (funct7 word) (left_shifts word) (f, tt), (small (funct7 word) (right_shifts word) (f, (f, tt)), tt))))))))

ops_small : (word : ℕ) → Entries Small (ops word)
ops_small word =
    (small (funct3 word) (plain_ops word) (tt, (tt, (tt, (tt, (tt, (tt, (tt, (tt, tt)))))))), (small (funct3 word) (other_ops word) (tt, (tt, tt)), tt))

decode_small : (word : ℕ) → Small (decode word)
unfolding decode
decode_small word =
    let jump = small (funct3 word) (jalrs word) (tt, tt) in
    let branch = small (funct3 word) (branches word) (tt, (tt, (tt, (tt, (tt, (tt, tt)))))) in
    let load = small (funct3 word) (load-table word) (tt, (tt, (tt, (tt, (tt, tt))))) in
    let store = small (funct3 word) (stores word) (tt, (tt, (tt, tt))) in
    let op-imm = small (funct3 word) (op_imms word) (op_imms_small word) in
    let op = small (funct7 word) (ops word) (ops_small word) in
    let fence = small (funct3 word) fences (tt, tt) in
    let system = small word systems (tt, (tt, (tt, tt))) in
    let amo = small (funct3 word) (amos word) (small (funct5 word) (amo_words word) (tt, (tt, tt)), tt) in
    small (opcode word) (opcodes word)
    (omega (arith, field_below word 12 20), (tt, (tt, (jump, (branch, (load, (store, (op-imm, (op, (fence, (system, (amo, tt))))))))))))

module _ (lines : ℕ) (c : Core) (w : WellFormed c) where
  -- a word into a register, and on
  writes : (d x : ℕ) → x < 2 ^ 32 → WellFormed (next (with_register c d x))
  writes d x h = next_words (with_register c d x) (with_words c w d x h)

  jumps : (d a : ℕ) → a < 2 ^ 32 → WellFormed (at (with_register c d (add c.pc 4)) a)
  jumps d a h = at_words (with_register c d (add c.pc 4)) (with_words c w d (add c.pc 4) (omega arith)) a h

  loads_words : (k : LoadKind) (d a word : ℕ) → word < 2 ^ 32 → WellFormedEffect (loads lines c k d a word)
  loads_words k d a word h =
      both WellFormedEffect (reaches lines (load_size k) a) _ _ (λ _. writes d (loaded k a word) (loaded_below k a word h))
      (λ _. both WellFormedEffect (eqb (load_size k) 4 && eqb a epc_address) _ _ (λ _. writes d c.epc w.resume) (λ _. tt))

  tells_words : (a x : ℕ) → x < 2 ^ 32 → WellFormedEffect (tells c a x)
  tells_words a x h =
      let n : WellFormed (next c) = next_words c w in
      both WellFormedEffect (eqb a say_address) _ _ (λ _. (h, n))
      (λ _. both WellFormedEffect (eqb a let_address) _ _
      (λ _. both WellFormedEffect (eqb x 0) _ _ (λ _. lets_words (next c) n false) (λ _. both WellFormedEffect (eqb x 1) _ _ (λ _. lets_words (next c) n true) (λ _. tt)))
      (λ _. tt))

  puts_words : (k : StoreKind) (a x word : ℕ) → x < 2 ^ 32 → word < 2 ^ 32 → WellFormedEffect (puts lines c k a x word)
  puts_words k a x word h g =
      both WellFormedEffect (reaches lines (store_size k) a) _ _ (λ _. (stored_below k a word x g h, next_words c w))
      (λ _. both WellFormedEffect (eqb (store_size k) 4) _ _ (λ _. tells_words a x h) (λ _. tt))

  swaps_words : (k : AmoKind) (d a x word : ℕ) → x < 2 ^ 32 → word < 2 ^ 32 → WellFormedEffect (swaps lines c k d a x word)
  swaps_words k d a x word h g = both WellFormedEffect (reaches lines 4 a) _ _ (λ _. (combined_below k word x h, writes d word g)) (λ _. tt)

  execute_words : (i : Instruction) (word : ℕ) → Small i → word < 2 ^ 32 → WellFormedEffect (execute lines c i word)
  unfolding execute
  execute_words (Lui d x) word h g = writes d x h
  execute_words (Auipc d x) word h g = writes d (add c.pc x) (omega arith)
  execute_words (Jal d x) word h g = jumps d (add c.pc x) (omega arith)
  execute_words (Jalr d s x) word h g = jumps d (add (register c s) x / 2 * 2) (omega arith)
  execute_words (Branch k s t x) word h g = at_words c w _ (mod_below _ (2 ^ 32) (pow_pos 32))
  execute_words (Load k d s x) word h g = loads_words k d (add (register c s) x) word g
  execute_words (Store k s t x) word h g = puts_words k (add (register c s) x) (register c t) word (register_below c w t) g
  execute_words (OpImm o d s x) word h g = writes d _ (operate_below o (register c s) x (register_below c w s) h)
  execute_words (Op o d s t) word h g = writes d _ (operate_below o (register c s) (register c t) (register_below c w s) (register_below c w t))
  execute_words (Amo k d s t) word h g = swaps_words k d (register c s) (register c t) word (register_below c w t) g
  execute_words Fence word h g = next_words c w
  execute_words Ecall word h g = tt
  execute_words Ebreak word h g = tt
  execute_words Mret word h g = returns_words c w
  execute_words Illegal word h g = tt

pub keeps_words : KeepsWords
keeps_words lines c word x w h = execute_words lines c w (decode word) x (decode_small word) h
