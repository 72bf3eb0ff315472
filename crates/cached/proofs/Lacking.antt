-- What a core lacks, by what it fetches and by its own cache; and what its instruction does where it lacks nothing.
use Rattle.std.proofs.Common.{◌≡◌, ℕ, suc, ◌+◌, ◌*◌, Some, None, Ok, Err, Option, Result, sym, ap, ◌∙◌, subst, MatchResult}
use mathlib.Core.Path.{fun_ext}
use Rattle.rv32.specs.Decode.{decode}
use Rattle.rv32.specs.Execute.{did, execute, fetch, need, one}
use Rattle.rv32.specs.Laws.{Supplied}
use Rattle.rv32.specs.declared.core_state.Core.{Core}
use Rattle.rv32.specs.declared.core_state.Effect.{Effect}
use Rattle.rv32.specs.declared.core_state.Need.{Need}
use Rattle.rv32.specs.declared.core_state.Need.TheVariants.{Read}
use Rattle.rv32.specs.declared.instruction.Instruction.{Instruction}
use Rattle.rv32.proofs.Laws.{done}
use Rattle.cache.specs.Own.{Own}
use Rattle.cache.specs.Slots.{Slot, Lack, cached, chosen, find, first, goes_first, home, lacks, line_of, ready, seek}
use Rattle.cache.specs.Words.{is_write}
use Rattle.cache.specs.declared.slot.Lack as code_lack
use Rattle.cache.proofs.Own.{cached_own, choose_own, seek_own}
use Rattle.cached.specs.Kind.{code, needed, operand, to_fetch}
use Rattle.cached.specs.Layout.{shared}
use Rattle.cached.specs.Puts.{lacking}
use Rattle.cached.specs.Rv.{rv}
use Rattle.cached.specs.Soc.{State, lacked, place_for}
use Rattle.cached.specs.declared.control.Control.{Control}

module _ (n : ℕ) (c : Core) (f : ℕ → Slot) where
  -- what is lacked, by the word that is fetched
  abbrev by_word : Option ℕ → Lack
  by_word o = first (seek f 0 (to_fetch o)) (seek f 0 (needed (to_fetch o) (λ word. need n c (decode word)) (cached f 0)))

  pub nothing_lacked : fetch n c ≡ None → lacking n c f ≡ ready
  nothing_lacked e = ap by_word e

  pub data_lacked : (x : ℕ) (i : Instruction) (m : Need) → fetch n c ≡ Some x → ready ≡ seek f 0 (Read x) → i ≡ decode (cached f 0 x) → m ≡ need n c i → lacking n c f ≡ seek f 0 m
  data_lacked x i m e h p q =
      ap by_word e
      ∙ ap (λ l. first l (seek f 0 (need n c (decode (cached f 0 x))))) (sym h)
      ∙ ap (λ j. seek f 0 (need n c j)) (sym p)
      ∙ ap (seek f 0) (sym q)

  pub done_with : (x : ℕ) (i : Instruction) (m : Need) (y : ℕ) (e : Effect) → fetch n c ≡ Some x → i ≡ decode (cached f 0 x) → m ≡ need n c i →
      Supplied (cached f 0) y m → e ≡ execute n c i y → did e ≡ one n c (cached f 0)
  done_with x i m y e r p q s t = ap did t ∙ sym (done n c (cached f 0) x i y r p (subst (Supplied (cached f 0) y) q s))

-- what core k lacks of all caches, it lacks of its own
module _ (h : State rv) (k : ℕ) (g : ℕ → Slot) (o : Own k h.lines.slot g) where
  reads : cached h.lines.slot k ≡ cached g 0
  reads = fun_ext (cached_own k h.lines.slot g o)

  lacked_own : lacked rv h k ≡ lacking h.size (h.cpu k) g
  lacked_own =
      ap (λ read. first (seek h.lines.slot k (code rv h.size (h.cpu k))) (seek h.lines.slot k (operand rv h.size (h.cpu k) read))) reads
      ∙ (λ i. first (seek_own k h.lines.slot g o (code rv h.size (h.cpu k)) i) (seek_own k h.lines.slot g o (operand rv h.size (h.cpu k) (cached g 0)) i))

  pub tried_own : (n : ℕ) (c : Core) (r : Result Effect code_lack.Lack) → n ≡ h.size → c ≡ h.cpu k →
      MatchResult r (λ e. (lacking n c g ≡ ready) × (did e ≡ one n c (cached g 0))) (λ l. lacking n c g ≡ lacks l.line (is_write l.access)) →
      MatchResult r (λ e. (lacked rv h k ≡ ready) × (did e ≡ one h.size (h.cpu k) (cached h.lines.slot k))) (λ l. lacked rv h k ≡ lacks l.line (is_write l.access))
  tried_own n c (Ok e) p q u = (
    lacked_own ∙ (λ i. lacking (sym p i) (sym q i) g) ∙ u.0,
    u.1 ∙ (λ i. one (p i) (q i) (sym reads i)),
  )
  tried_own n c (Err l) p q u = lacked_own ∙ (λ i. lacking (sym p i) (sym q i) g) ∙ u

  -- and it chooses the same place for a line
  pub place_own : (a i : ℕ) (s : Control) (c : Core) (x : ℕ) → s ≡ shared h → c ≡ h.cpu k → x ≡ line_of (code rv s.size c) →
      i ≡ chosen (find g 0 a) 0 a (goes_first (g (home 0 a)) (g (suc (home 0 a))) x s.way) → 64 * k + i ≡ place_for rv h k a
  place_own a i s c x p q r t =
      ap (λ j. 64 * k + j) t
      ∙ sym (choose_own k h.lines.slot g o a x s.way)
      ∙ (λ i. chosen (find h.lines.slot k a) k a (goes_first (h.lines.slot (home k a)) (h.lines.slot (suc (home k a))) (at i) (p i).way))
    where
      at : x ≡ line_of (code rv h.size (h.cpu k))
      at = r ∙ (λ i. line_of (code rv (p i).size (q i)))
