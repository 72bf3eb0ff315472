-- The line that a core lacks, by what it fetches; and what its instruction does where it lacks none.
use Rattle.std.proofs.Common.{◌≡◌, ℕ, ◌/◌, true, Some, None, Option, sym, ap, ◌∙◌, subst}
use Rattle.rv32.specs.Decode.{decode}
use Rattle.rv32.specs.Execute.{did, execute, fetch, need, one}
use Rattle.rv32.specs.Laws.{Supplied}
use Rattle.rv32.specs.declared.core_state.Core.{Core}
use Rattle.rv32.specs.declared.core_state.Effect.{Effect}
use Rattle.rv32.specs.declared.core_state.Need.{Need}
use Rattle.rv32.specs.declared.instruction.Instruction.{Instruction}
use Rattle.rv32.proofs.Laws.{done}
use Rattle.cores.specs.Machines.{pick}
use Rattle.soc.specs.Kind.{needed}
use Rattle.soc.specs.Rv.{word_of}
use Rattle.soc.specs.Buffers.{holds, lacks_code, lacks_data, first}
use Rattle.soc.specs.Turn.{lacked, words_in}
use Rattle.soc.specs.declared.control.Control.{Control}

module _ (s : Control) (c : Core) where
  -- what is lacked, by the word that is fetched
  abbrev by_word : Option ℕ → Option ℕ
  by_word o = first (lacks_code o s.fetched) (lacks_data (needed o (λ word. word_of (need s.size c (decode word))) (words_in s)) s.fetched s.loaded)

  pub none_lacked : fetch s.size c ≡ None → lacked s c ≡ None
  none_lacked e = ap by_word e

  pub data_lacked : (x : ℕ) (i : Instruction) (m : Need) → fetch s.size c ≡ Some x → holds s.fetched (x / 8) ≡ true → i ≡ decode (words_in s x) → m ≡ need s.size c i →
      lacked s c ≡ lacks_data (word_of m) s.fetched s.loaded
  data_lacked x i m e h p q =
      ap by_word e
      ∙ ap (λ b. first (pick b None (Some (x / 8))) (lacks_data (word_of (need s.size c (decode (words_in s x)))) s.fetched s.loaded)) h
      ∙ ap (λ j. lacks_data (word_of (need s.size c j)) s.fetched s.loaded) (sym p)
      ∙ ap (λ m. lacks_data (word_of m) s.fetched s.loaded) (sym q)

  pub done_with : (x : ℕ) (i : Instruction) (m : Need) (y : ℕ) (e : Effect) → fetch s.size c ≡ Some x → i ≡ decode (words_in s x) → m ≡ need s.size c i →
      Supplied (words_in s) y m → e ≡ execute s.size c i y → did e ≡ one s.size c (words_in s)
  done_with x i m y e f p q s' r =
      ap did r ∙ sym (done s.size c (words_in s) x i y f p (subst (Supplied (words_in s) y) q s'))
