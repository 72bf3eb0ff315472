-- RV32I cores keep the laws of a kind.
use Rattle.std.proofs.Common.{◌≡◌, ℕ, ◌^◌, ◌<◌, Some, None, Option, sym, refl, ap, ◌∙◌, subst, arith}
use Rattle.rv32.specs.Did.{stores, stops}
use Rattle.rv32.specs.Decode.{decode}
use Rattle.rv32.specs.Execute.{did, execute, fetch, need, one}
use Rattle.rv32.specs.Laws.{Supplied, Within as Within-words, StoredAt, WellFormed, WellFormedEffect}
use Rattle.rv32.specs.declared.core_state.Core.{Core}
use Rattle.rv32.specs.declared.core_state.Effect.{Effect}
use Rattle.rv32.specs.declared.core_state.Effect.TheVariants.{Goes, Stores, Says, Stops}
use Rattle.rv32.specs.declared.core_state.Need.{Need}
use Rattle.rv32.specs.declared.core_state.Need.TheVariants.{Nothing, Read, Write}
use Rattle.rv32.proofs.Laws.{done, not_done, fetch_within, needs_within, stores_needed}
use Rattle.rv32.proofs.Words.{keeps_words, interrupt_keeps_words, starts_with_words}
use Rattle.soc.specs.Kind.{needed, Agree, Within, Leaves, Laws}
use Rattle.soc.specs.Rv.{word_of, rv}

-- the word that a need is for
abbrev value : (ℕ → ℕ) → Need → ℕ
value read Nothing = 0
value read (Read a) = read a
value read (Write a) = read a

supplied_self : (read : ℕ → ℕ) (n : Need) → Supplied read (value read n) n
supplied_self read Nothing = tt
supplied_self read (Read a) = refl
supplied_self read (Write a) = refl

supplied_other : (read other : ℕ → ℕ) (n : Need) → Agree read other (word_of n) → Supplied other (value read n) n
supplied_other read other Nothing h = tt
supplied_other read other (Read a) h = h
supplied_other read other (Write a) h = h

-- what an instruction does that is fetched from word x
abbrev effect : ℕ → Core → (ℕ → ℕ) → ℕ → Effect
effect lines c read x = execute lines c (decode (read x)) (value read (need lines c (decode (read x))))

done_at : (lines : ℕ) (c : Core) (read : ℕ → ℕ) (x : ℕ) → fetch lines c ≡ Some x → one lines c read ≡ did (effect lines c read x)
done_at lines c read x e = done lines c read x (decode (read x)) (value read (need lines c (decode (read x)))) e refl (supplied_self read (need lines c (decode (read x))))

alike : (lines : ℕ) (c : Core) (read other : ℕ → ℕ) (f : Option ℕ) → fetch lines c ≡ f → Agree read other f →
    Agree read other (needed f (λ word. word_of (need lines c (decode word))) read) → one lines c read ≡ one lines c other
alike lines c read other None e a b = not_done lines c read e ∙ sym (not_done lines c other e)
alike lines c read other (Some x) e a b =
    let n : Need = need lines c (decode (read x)) in
    done_at lines c read x e ∙ sym (done lines c other x (decode (read x)) (value read n) e (ap decode a) (supplied_other read other n b))

clash : {P : Type 0} → ◌≡◌ {A = ℕ} 0 1 → P
clash e = absurd (omega arith)

stored : (n : Need) (e : Effect) (y v : ℕ) (d : Core) → did e ≡ stores y v d → StoredAt n e → n ≡ Write y
stored n (Goes c) y v d e h = clash (cc)
stored n (Stores a w c) y v d e h = h ∙ ap Write (inner e)
  where
    inner : stores a w c ≡ stores y v d → a ≡ y
    inner e = cc
stored n (Says w c) y v d e h = clash (cc)
stored n Stops y v d e h = clash (cc)

storing : (lines : ℕ) (c : Core) (read : ℕ → ℕ) (y v : ℕ) (d : Core) (f : Option ℕ) → fetch lines c ≡ f → one lines c read ≡ stores y v d →
    needed f (λ word. word_of (need lines c (decode word))) read ≡ Some y
storing lines c read y v d None e i = stopped (sym (not_done lines c read e) ∙ i)
  where
    stopped : {P : Type 0} → stops ≡ stores y v d → P
    stopped e = clash (cc)
storing lines c read y v d (Some x) e i =
    ap word_of (stored (need lines c (decode (read x))) (effect lines c read x) y v d (sym (done_at lines c read x e) ∙ i) (stores_needed lines c (decode (read x)) _))

fetched_within : (lines : ℕ) (c : Core) (f : Option ℕ) → fetch lines c ≡ f → Within lines f
fetched_within lines c None e = tt
fetched_within lines c (Some x) e = fetch_within lines c x e

need_within : (lines : ℕ) (n : Need) → Within-words lines n → Within lines (word_of n)
need_within lines Nothing h = tt
need_within lines (Read a) h = h
need_within lines (Write a) h = h

leaves : (e : Effect) → WellFormedEffect e → Leaves WellFormed (did e)
leaves (Goes c) h = h
leaves (Stores a x c) h = h
leaves (Says x c) h = h.1
leaves Stops h = tt

value_below : (read : ℕ → ℕ) (n : Need) → ((x : ℕ) → read x < 2 ^ 32) → value read n < 2 ^ 32
value_below read Nothing h = omega arith
value_below read (Read a) h = h a
value_below read (Write a) h = h a

one_leaves : (lines : ℕ) (c : Core) (read : ℕ → ℕ) (f : Option ℕ) → fetch lines c ≡ f → WellFormed c → ((x : ℕ) → read x < 2 ^ 32) → Leaves WellFormed (one lines c read)
one_leaves lines c read None e w h = subst (Leaves WellFormed) (sym (not_done lines c read e)) tt
one_leaves lines c read (Some x) e w h = subst (Leaves WellFormed) (sym (done_at lines c read x e))
    (leaves (effect lines c read x) (keeps_words lines c (read x) (value read (need lines c (decode (read x)))) w (value_below read (need lines c (decode (read x))) h)))

pub rv_laws : Laws rv
rv_laws = record {
  alike = λ n c read other a b. alike n c read other (fetch n c) refl a b;
  storing = λ n c read y v d e. storing n c read y v d (fetch n c) refl e;
  looks_within = λ n c. fetched_within n c (fetch n c) refl;
  touch_within = λ n c word. need_within n (need n c (decode word)) (needs_within n c (decode word));
  Sound = WellFormed;
  start_sound = λ k l. starts_with_words k (omega arith);
  enters_sound = interrupt_keeps_words;
  one_sound = λ n c read w h. one_leaves n c read (fetch n c) refl w h;
  calm = λ c. refl;
}
