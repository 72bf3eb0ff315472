-- What every word decodes to fits, so what does not fit is no word's.
use Rattle.std.proofs.Common.{◌≡◌, ℕ, ◌+◌, ◌*◌, ◌%◌, ◌^◌, ◌≤◌, Bool, true, cond, List, [], ◌∷◌, None, Ok, Err, Option, Result, sym, refl, ap, ◌∙◌, arith}
use Rattle.std.proofs.lemmas.Bool.{and_from, eq-eqb, lt-ltb}
use Rattle.words.specs.Word.{field, extend}
use Rattle.words.proofs.Fields.{extended, field_below}
use Rattle.rv32.specs.Decode.{decode, immediate_i, immediate_u, rs2}
use Rattle.rv32.specs.declared.instruction.Instruction.{Instruction}
use Rattle.encode.proofs.RoundTrip.{round_trip, same_extended}
use Rattle.encode.proofs.Tables.{decoded}
use Rattle.encode.specs.Encode.{branch_fault, encode, first, Gives, immediate_fault, is_offset, jump_fault, misfit, operation_fault, register_fault, shift_fault, unless, upper_fault}
use Rattle.encode.specs.Laws.{Exact, OnlyMisfitsRefused, WordsFit}
use Rattle.encode.specs.declared.misfit.Misfit.{Misfit}

passes : (b : Bool) (m : Misfit) → b ≡ true → unless b m ≡ None
passes b m h = ap (λ t. unless t m) h

-- each operand that is read out of a word
register_fits : (w low : ℕ) → register_fault (field w low 5) ≡ None
register_fits w low = passes _ _ (lt-ltb (field w low 5) 32 (field_below w low 5))

shift_fits : (w low : ℕ) → shift_fault (field w low 5) ≡ None
shift_fits w low = passes _ _ (lt-ltb (field w low 5) 32 (field_below w low 5))

upper_fits : (w : ℕ) → upper_fault (immediate_u w) ≡ None
upper_fits w = passes _ _ (eq-eqb (field (immediate_u w) 12 20 * 2 ^ 12) (immediate_u w) (omega arith))

again : (size x : ℕ) → 1 ≤ size → size ≤ 32 → extend size (extend size x) ≡ extend size x
again size x h k = same_extended size (extend size x) x (extended size x h k).0

immediate_fits : (x : ℕ) → immediate_fault (extend 12 x) ≡ None
immediate_fits x = passes _ _ (eq-eqb (extend 12 (extend 12 x)) (extend 12 x) (again 12 x (omega arith) (omega arith)))

offset_fits : (size x : ℕ) (m : Misfit) → 1 ≤ size → size ≤ 32 → extend size x % 2 ≡ 0 → unless (is_offset size (extend size x)) m ≡ None
offset_fits size x m h k even =
    passes _ m (and_from _ _ (eq-eqb (extend size x % 2) 0 even) (eq-eqb (extend size (extend size x)) (extend size x) (again size x h k)))

branch_fits : (x : ℕ) → x % 2 ≡ 0 → branch_fault (extend 13 x) ≡ None
branch_fits x h = offset_fits 13 x _ (omega arith) (omega arith) (omega (arith, (extended 13 x (omega arith) (omega arith)).0))

jump_fits : (x : ℕ) → x % 2 ≡ 0 → jump_fault (extend 21 x) ≡ None
jump_fits x h = offset_fits 21 x _ (omega arith) (omega arith) (omega (arith, (extended 21 x (omega arith) (omega arith)).0))

-- operands that fit, one after the other
and_then : (a : Option Misfit) (rest : List (Option Misfit)) → a ≡ None → first rest ≡ None → first (a ∷ rest) ≡ None
and_then a rest h k = ap (λ b. first (b ∷ rest)) h ∙ k

two : (a b : Option Misfit) → a ≡ None → b ≡ None → first (a ∷ b ∷ []) ≡ None
two a b h k = and_then a (b ∷ []) h (and_then b [] k refl)

three : (a b c : Option Misfit) → a ≡ None → b ≡ None → c ≡ None → first (a ∷ b ∷ c ∷ []) ≡ None
three a b c h k l = and_then a (b ∷ c ∷ []) h (two b c k l)

pub words_fit : WordsFit
unfolding misfit
words_fit w =
    decoded (λ i. misfit i ≡ None) w
    (record {
      lui = two _ _ (register_fits w 7) (upper_fits w);
      auipc = two _ _ (register_fits w 7) (upper_fits w);
      jal = two _ _ (register_fits w 7) (jump_fits (field w 31 1 * 2 ^ 20 + field w 12 8 * 2 ^ 12 + field w 20 1 * 2 ^ 11 + field w 21 10 * 2) (omega arith));
      jalr = three _ _ _ (register_fits w 7) (register_fits w 15) (immediate_fits _);
      branch = λ k. three _ _ _ (register_fits w 15) (register_fits w 20) (branch_fits (field w 31 1 * 2 ^ 12 + field w 7 1 * 2 ^ 11 + field w 25 6 * 2 ^ 5 + field w 8 4 * 2) (omega arith));
      load = λ k. three _ _ _ (register_fits w 7) (register_fits w 15) (immediate_fits _);
      store = λ k. three _ _ _ (register_fits w 15) (register_fits w 20) (immediate_fits _);
      immediate =
          λ o f s.
          and_then (operation_fault o) _ f
          (three _ _ _ (register_fits w 7) (register_fits w 15) (ap (λ b. cond b (shift_fault (immediate_i w)) (immediate_fault (immediate_i w))) s ∙ immediate_fits _));
      shift =
          λ o f s.
          and_then (operation_fault o) _ f
          (three _ _ _ (register_fits w 7) (register_fits w 15) (ap (λ b. cond b (shift_fault (rs2 w)) (immediate_fault (rs2 w))) s ∙ shift_fits w 20));
      op = λ o. three _ _ _ (register_fits w 7) (register_fits w 15) (register_fits w 20);
      amo = λ _ k. three _ _ _ (register_fits w 7) (register_fits w 15) (register_fits w 20);
      fence = refl;
      ecall = refl;
      ebreak = refl;
      mret = refl;
      illegal = refl;
    })

pub only_misfits_refused : OnlyMisfitsRefused
only_misfits_refused i m h w e = let p : misfit i ≡ None = ap misfit (sym e) ∙ words_fit w in let z : ◌≡◌ {A = ℕ} 0 1 = cc in omega arith

pub exact : (i : Instruction) (r : Result ℕ Misfit) → Gives (misfit i) (encode i) r → Exact i r
exact i (Ok w) h = ap decode h.1 ∙ (round_trip i h.0).1
exact i (Err m) h = only_misfits_refused i m h
