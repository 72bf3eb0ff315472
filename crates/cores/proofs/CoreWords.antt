-- What is read of the registers, and of whether a core goes, and what writing them leaves; and the word that a core says.
use Rattle.std.proofs.Common.{◌≡◌, ℕ, ◌*◌, ◌<◌, Bool, true, false, cond, ◌&&◌, ltb, List, [], ◌∷◌, length, get_or, sym, refl, ap, ◌∙◌, arith}
use mathlib.Core.Path.{fun_ext}
use borrow.Rule.Slice.PartMut.{put_mid}
use mir.Val.{bool_byte}
use Rattle.std.proofs.lemmas.List.{take_at}
use Rattle.words.specs.Parts.{part, table}
use Rattle.words.proofs.Parts.{part_word}
use Rattle.words.proofs.Tables.{within, within_read, within_written}
use Rattle.rv32.specs.Did.{Did, goes, stores, says, stops, said_after}
use Rattle.rv32.specs.Execute.{start}
use Rattle.rv32.specs.declared.core_state.Core.{Core}
use Rattle.cores.specs.Ports.{somes, spoken}
use Rattle.cores.specs.Put.{put}
use Rattle.cores.specs.Registers.{flag, core_of, cpus_of, ons_of}

pub flag_byte : (b : Bool) → flag (bool_byte b) ≡ b
flag_byte true = refl
flag_byte false = refl

-- a core that was written, the three words first
same_core : (x y : Core) → x.pc ≡ y.pc → x.registers ≡ y.registers → x.epc ≡ y.epc → x.lets ≡ y.lets → x ≡ y
same_core x y a b c d = λ i. record { pc = a i; registers = b i; epc = c i; lets = d i }

abbrev head : Core → List ℕ
head c = c.pc ∷ c.epc ∷ bool_byte c.lets ∷ []

pub core_written : (b ys zs : List ℕ) (c : Core) → ys ≡ head c → zs ≡ c.registers → length zs ≡ 32 → core_of (put_mid 3 32 (put_mid 0 3 b ys) zs) ≡ c
unfolding part
core_written b ys zs c e f h =
    rw e (same_core (core_of (put_mid 3 32 (put_mid 0 3 b (head c)) zs)) c refl (take_at zs _ 32 h ∙ f) refl (flag_byte c.lets))

-- registers as a table
abbrev cores : List ℕ → ℕ → Core
cores w = table 35 (λ _. core_of) w

pub core_read : (w : List ℕ) (k : ℕ) → k < 4 → cores w k ≡ cpus_of w k
core_read w k h = within_read 4 (start 0) (cores w) k h

pub core_put : (v w : List ℕ) (k : ℕ) (c : Core) → k < 4 → cores w ≡ put (cores v) k c → cpus_of w ≡ put (cpus_of v) k c
core_put v w k c h e = within_written 4 (start 0) (cores v) (cores w) k c h e

-- a table of words that say yes or no
abbrev pub flags : List ℕ → ℕ → Bool
flags w = table 1 (λ _ b. flag (get_or b 0 0)) w

pub flag_word : (w : List ℕ) (k : ℕ) → flags w k ≡ flag (get_or w k 0)
flag_word w k = ap flag (part_word (1 * k) 1 w 0 0 (omega arith) ∙ ap (λ i. get_or w i 0) (omega arith))

on_within : (w : List ℕ) → ons_of w ≡ within 4 false (flags w)
on_within w = fun_ext (λ k. both (ltb k 4) (flag_word w k))
  where
    both : (b : Bool) {x y : Bool} → y ≡ x → (b && x) ≡ cond b y false
    both true e = sym e
    both false e = refl

pub on_read : (w : List ℕ) (k : ℕ) → k < 4 → flags w k ≡ ons_of w k
on_read w k h = within_read 4 false (flags w) k h ∙ ap (λ (f : ℕ → Bool). f k) (sym (on_within w))

pub on_put : (v w : List ℕ) (k : ℕ) (b : Bool) → k < 4 → flags w ≡ put (flags v) k b → ons_of w ≡ put (ons_of v) k b
on_put v w k b h e = on_within w ∙ within_written 4 false (flags v) (flags w) k b h e ∙ ap (λ (f : ℕ → Bool). put f k b) (sym (on_within v))

-- the word that an instruction says, with its core
pub said_spoken : {Cpu : Type 0} (k : ℕ) (d : Did Cpu) → somes (λ x. (k, x)) (said_after d ∷ []) ≡ spoken k d
said_spoken k (goes c) = refl
said_spoken k (stores y v c) = refl
said_spoken k (says x c) = refl
said_spoken k stops = refl
