-- An instruction's bytes, read as a word, decode to it.
use Rattle.std.proofs.Common.{◌≡◌, ℕ, ◌+◌, ◌*◌, ◌/◌, ◌%◌, ◌^◌, ◌<◌, Bool, true, false, cond, eqb, List, Some, None, Ok, Err, Option, Result, refl, arith}
use Rattle.std.proofs.lemmas.Bool.{eqb-true}
use Rattle.words.proofs.Bytes.{four_bytes}
use Rattle.rv32.specs.Decode.{decode}
use Rattle.rv32.specs.declared.instruction.Instruction.{Instruction}
use Rattle.rv32.specs.declared.instruction.Instruction.TheVariants.{Lui, Auipc, Jal, Jalr, Branch, Load, Store, OpImm, Op, Amo, Fence, Ecall, Ebreak, Mret, Illegal}
use Rattle.encode.proofs.Marks.{same_amo}
use Rattle.encode.proofs.RoundTrip.{round_trip}
use Rattle.encode.specs.Encode.{encode, misfit, with_order}
use Rattle.encode.specs.declared.misfit.Misfit.{Misfit}
use Rattle.encode.specs.declared.order.Order.{Order}
use Rattle.layout.specs.Layout.{after_place, marked, outcome, unless, with_operand, within, word_bytes}
use Rattle.layout.specs.declared.fault.Fault.{Fault}
use Rattle.layout.specs.declared.fault.Fault.TheVariants.{Misaligned}
use Rattle.layout.specs.declared.statement.Operand.{Operand}
use Rattle.layout.specs.declared.statement.Statement.TheVariants.{Code}

-- a word that is below 2 ^ 32 is its four bytes
pub word_of_bytes : (w a b c d : ℕ) → w < 2 ^ 32 → a ≡ w % 256 → b ≡ w / 256 % 256 → c ≡ w / 65536 % 256 → d ≡ w / 16777216 % 256 → a + b * 256 + c * 65536 + d * 16777216 ≡ w
word_of_bytes w a b c d h p q r s = omega (arith, four_bytes w h)

-- where there is no fault, the address is a multiple of 4 and the instruction has a word
parts : (aligned : Bool) (p : Result ℕ Fault) (m : Option Misfit) (w : ℕ) (bytes : List ℕ) → after_place (cond aligned p (Err Misaligned)) (unless m w) ≡ Ok bytes →
    (aligned ≡ true) × (m ≡ None) × (bytes ≡ word_bytes w)
parts true (Ok a) None w bytes e = (refl, refl, cc)
parts true (Ok a) (Some m) w bytes e = let z : ◌≡◌ {A = ℕ} 0 1 = cc in absurd (omega arith)
parts true (Err f) None w bytes e = let z : ◌≡◌ {A = ℕ} 0 1 = cc in absurd (omega arith)
parts true (Err f) (Some m) w bytes e = let z : ◌≡◌ {A = ℕ} 0 1 = cc in absurd (omega arith)
parts false p None w bytes e = let z : ◌≡◌ {A = ℕ} 0 1 = cc in absurd (omega arith)
parts false p (Some m) w bytes e = let z : ◌≡◌ {A = ℕ} 0 1 = cc in absurd (omega arith)

pub code_fine : (size here : ℕ) (values : List ℕ) (i : Instruction) (order : Order) (operand : Option Operand) (bytes : List ℕ) → outcome size values here (Code i order operand) ≡ Ok bytes →
    (here % 4 ≡ 0) × (misfit (with_operand values here i operand) ≡ None) × (bytes ≡ word_bytes (marked (with_operand values here i operand) order (encode (with_operand values here i operand))))
code_fine size here values i order operand bytes e =
    let three = parts (eqb (here % 4) 0) (within size (here + 4)) (misfit (with_operand values here i operand)) _ bytes e in
    (eqb-true (here % 4) 0 three.0, three.1, three.2)

-- a word's marks keep it below 2 ^ 32
order_below : (w : ℕ) (order : Order) → w < 2 ^ 32 → with_order w order < 2 ^ 32
order_below w order h = omega arith

pub marked_decodes : (i : Instruction) (order : Order) → misfit i ≡ None → (marked i order (encode i) < 2 ^ 32) × (decode (marked i order (encode i)) ≡ i)
marked_decodes (Lui d v) order h = round_trip (Lui d v) h
marked_decodes (Auipc d v) order h = round_trip (Auipc d v) h
marked_decodes (Jal d v) order h = round_trip (Jal d v) h
marked_decodes (Jalr d s v) order h = round_trip (Jalr d s v) h
marked_decodes (Branch k s t v) order h = round_trip (Branch k s t v) h
marked_decodes (Load k d s v) order h = round_trip (Load k d s v) h
marked_decodes (Store k s t v) order h = round_trip (Store k s t v) h
marked_decodes (OpImm o d s v) order h = round_trip (OpImm o d s v) h
marked_decodes (Op o d s t) order h = round_trip (Op o d s t) h
marked_decodes (Amo k d s t) order h =
    let plain = round_trip (Amo k d s t) h in
    (order_below (encode (Amo k d s t)) order plain.0, same_amo (encode (Amo k d s t)) order k d s t plain.1)
marked_decodes Fence order h = round_trip Fence h
marked_decodes Ecall order h = round_trip Ecall h
marked_decodes Ebreak order h = round_trip Ebreak h
marked_decodes Mret order h = round_trip Mret h
marked_decodes Illegal order h = round_trip Illegal h
