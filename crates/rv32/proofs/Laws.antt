-- What an instruction looks at and stores to.
use Rattle.std.proofs.Common.{◌≡◌, ℕ, ◌*◌, ◌/◌, ◌%◌, ◌<◌, Bool, true, false, cond, eqb, ltb, Some, None, sym, refl, ap, ◌∙◌, subst, arith}
use Rattle.std.proofs.lemmas.Bool.{ltb-true, and_parts}
use Rattle.rv32.specs.Arithmetic.{add}
use Rattle.rv32.specs.Did.{stops}
use Rattle.rv32.specs.Decode.{decode}
use Rattle.rv32.specs.Execute.{address, did, does, execute, need, fetch, load_size, next, one, reaches, register, store_size, tells, with_lets}
use Rattle.rv32.specs.Laws.{TwoWords, NoData, Supplied, SuppliedDoes, Within, NeedsWithin, StoredAt, StoresNeeded, StoresWithin}
use Rattle.rv32.specs.declared.core_state.Core.{Core}
use Rattle.rv32.specs.declared.core_state.Effect.{Effect}
use Rattle.rv32.specs.declared.core_state.Effect.TheVariants.{Goes, Stores, Says, Stops}
use Rattle.rv32.specs.declared.core_state.Need.{Need}
use Rattle.rv32.specs.declared.core_state.Need.TheVariants.{Nothing, Read, Write}
use Rattle.rv32.specs.declared.instruction.Instruction.{Instruction}
use Rattle.rv32.specs.declared.instruction.Instruction.TheVariants.{Lui, Auipc, Jal, Jalr, Branch, Load, Store, OpImm, Op, Amo, Fence, Ecall, Ebreak, Mret, Illegal}

-- a function of what stands at a place p and at a place that this gives
two : {A : Type 0} (g : ℕ → ℕ → A) (h : ℕ → ℕ) (read other : ℕ → ℕ) (p : ℕ) → read p ≡ other p → read (h (read p)) ≡ other (h (read p))
    → g (read p) (read (h (read p))) ≡ g (other p) (other (h (other p)))
two g h read other p e f = cc

pub two_words : TwoWords
unfolding one
two_words lines c read other e f = two (does lines c) (λ word. address c (decode word) / 4) read other (c.pc / 4) e f

-- where a test decides whether data is needed, and it is not
unless_read : (b : Bool) (a : ℕ) (u v w : Effect) → cond b (Read a) Nothing ≡ Nothing → cond b u w ≡ cond b v w
unless_read true a u v w e = cc
unless_read false a u v w e = refl

unless_write : (b : Bool) (a : ℕ) (u v w : Effect) → cond b (Write a) Nothing ≡ Nothing → cond b u w ≡ cond b v w
unless_write true a u v w e = cc
unless_write false a u v w e = refl

pub no_data : NoData
unfolding execute need
no_data lines c (Lui d x) u v e = refl
no_data lines c (Auipc d x) u v e = refl
no_data lines c (Jal d x) u v e = refl
no_data lines c (Jalr d s x) u v e = refl
no_data lines c (Branch k s t x) u v e = refl
no_data lines c (Load p d s x) u v e = unless_read _ _ _ _ _ e
no_data lines c (Store p s t x) u v e = unless_write _ _ _ _ _ e
no_data lines c (OpImm o d s x) u v e = refl
no_data lines c (Op o d s t) u v e = refl
no_data lines c (Amo o d s t) u v e = unless_write _ _ _ _ _ e
no_data lines c Fence u v e = refl
no_data lines c Ecall u v e = refl
no_data lines c Ebreak u v e = refl
no_data lines c Mret u v e = refl
no_data lines c Illegal u v e = refl

-- a need is for the word a
abbrev Is_at : Need → ℕ → Type 0
Is_at Nothing a = Unit {0}
Is_at (Read b) a = b ≡ a
Is_at (Write b) a = b ≡ a

at_read : (b : Bool) (a : ℕ) → Is_at (cond b (Read a) Nothing) a
at_read true a = refl
at_read false a = tt

at_write : (b : Bool) (a : ℕ) → Is_at (cond b (Write a) Nothing) a
at_write true a = refl
at_write false a = tt

-- a need is for the word at the instruction's address
at_address : (lines : ℕ) (c : Core) (i : Instruction) → Is_at (need lines c i) (address c i / 4)
unfolding need
at_address lines c (Lui d x) = tt
at_address lines c (Auipc d x) = tt
at_address lines c (Jal d x) = tt
at_address lines c (Jalr d s x) = tt
at_address lines c (Branch k s t x) = tt
at_address lines c (Load p d s x) = at_read _ _
at_address lines c (Store p s t x) = at_write _ _
at_address lines c (OpImm o d s x) = tt
at_address lines c (Op o d s t) = tt
at_address lines c (Amo o d s t) = at_write _ _
at_address lines c Fence = tt
at_address lines c Ecall = tt
at_address lines c Ebreak = tt
at_address lines c Mret = tt
at_address lines c Illegal = tt

supplied : (lines : ℕ) (c : Core) (i : Instruction) (read : ℕ → ℕ) (x : ℕ) (n : Need) → need lines c i ≡ n → Is_at n (address c i / 4) → Supplied read x n
    → execute lines c i (read (address c i / 4)) ≡ execute lines c i x
supplied lines c i read x Nothing e at h = no_data lines c i _ _ e
supplied lines c i read x (Read a) e at h = ap (execute lines c i) (sym (h ∙ ap read at))
supplied lines c i read x (Write a) e at h = ap (execute lines c i) (sym (h ∙ ap read at))

pub supplied_does : SuppliedDoes
unfolding one does
supplied_does lines c read x h =
    let i : Instruction = decode (read (c.pc / 4)) in
    ap (λ e. cond (reaches lines 4 c.pc) (did e) stops) (supplied lines c i read x (need lines c i) refl (at_address lines c i) h)

within_reach : (lines n a : ℕ) → reaches lines n a ≡ true → a / 4 < 8 * lines
within_reach lines n a e = omega (arith, ltb-true (a / 32) lines (and_parts (ltb (a / 32) lines) (eqb (a % n) 0) e).0)

within_read : (b : Bool) (lines a : ℕ) → (b ≡ true → a < 8 * lines) → Within lines (cond b (Read a) Nothing)
within_read true lines a h = h refl
within_read false lines a h = tt

within_write : (b : Bool) (lines a : ℕ) → (b ≡ true → a < 8 * lines) → Within lines (cond b (Write a) Nothing)
within_write true lines a h = h refl
within_write false lines a h = tt

pub needs_within : NeedsWithin
unfolding need
needs_within lines c (Lui d x) = tt
needs_within lines c (Auipc d x) = tt
needs_within lines c (Jal d x) = tt
needs_within lines c (Jalr d s x) = tt
needs_within lines c (Branch k s t x) = tt
needs_within lines c (Load p d s x) = within_read _ lines _ (within_reach lines (load_size p) (add (register c s) x))
needs_within lines c (Store p s t x) = within_write _ lines _ (within_reach lines (store_size p) (add (register c s) x))
needs_within lines c (OpImm o d s x) = tt
needs_within lines c (Op o d s t) = tt
needs_within lines c (Amo o d s t) = within_write _ lines _ (within_reach lines 4 (register c s))
needs_within lines c Fence = tt
needs_within lines c Ecall = tt
needs_within lines c Ebreak = tt
needs_within lines c Mret = tt
needs_within lines c Illegal = tt

-- a load stores nothing, nor does what is told a device
loads_none : (b e : Bool) (u v : Core) (n : Need) → StoredAt n (cond b (Goes u) (cond e (Goes v) Stops))
loads_none true e u v n = tt
loads_none false true u v n = tt
loads_none false false u v n = tt

tells_none : (b e f g : Bool) (x : ℕ) (u v w : Core) (n : Need) → StoredAt n (cond b (Says x u) (cond e (cond f (Goes v) (cond g (Goes w) Stops)) Stops))
tells_none true e f g x u v w n = tt
tells_none false true true g x u v w n = tt
tells_none false true false true x u v w n = tt
tells_none false true false false x u v w n = tt
tells_none false false f g x u v w n = tt

stored_write : (b : Bool) (a x : ℕ) (c : Core) (e : Effect) → ((n : Need) → StoredAt n e) → StoredAt (cond b (Write a) Nothing) (cond b (Stores a x c) e)
stored_write true a x c e h = refl
stored_write false a x c e h = h Nothing

or_stops : (b : Bool) (e : Effect) (n : Need) → StoredAt n e → StoredAt n (cond b e Stops)
or_stops true e n h = h
or_stops false e n h = tt

pub stores_needed : StoresNeeded
unfolding need execute
stores_needed lines c (Lui d x) y = tt
stores_needed lines c (Auipc d x) y = tt
stores_needed lines c (Jal d x) y = tt
stores_needed lines c (Jalr d s x) y = tt
stores_needed lines c (Branch k s t x) y = tt
stores_needed lines c (Load p d s x) y = loads_none (reaches lines (load_size p) (add (register c s) x)) _ _ _ _
stores_needed lines c (Store p s t x) y =
    stored_write (reaches lines (store_size p) (add (register c s) x)) _ _ _ _
    (λ n. or_stops (eqb (store_size p) 4) (tells c (add (register c s) x) (register c t)) n (tells_none (eqb (add (register c s) x) 0x40000000) (eqb (add (register c s) x) 0x40000004) (eqb (register c t) 0) (eqb (register c t) 1) (register c t) (next c) (with_lets (next c) false) (with_lets (next c) true) n))
stores_needed lines c (OpImm o d s x) y = tt
stores_needed lines c (Op o d s t) y = tt
stores_needed lines c (Amo o d s t) y = stored_write (reaches lines 4 (register c s)) _ _ _ _ (λ n. tt)
stores_needed lines c Fence y = tt
stores_needed lines c Ecall y = tt
stores_needed lines c Ebreak y = tt
stores_needed lines c Mret y = tt
stores_needed lines c Illegal y = tt

stores_within : (lines : ℕ) (n : Need) (e : Effect) → Within lines n → StoredAt n e → StoresWithin lines e
stores_within lines n (Goes c) w s = tt
stores_within lines n (Stores a x c) w s = subst (Within lines) s w
stores_within lines n (Says x c) w s = tt
stores_within lines n Stops w s = tt

pub execute_within : (lines : ℕ) (c : Core) (i : Instruction) (x : ℕ) → StoresWithin lines (execute lines c i x)
execute_within lines c i x = stores_within lines (need lines c i) (execute lines c i x) (needs_within lines c i) (stores_needed lines c i x)

-- what a fetch says of pc
fetched : (b : Bool) (a n : ℕ) → cond b (Some a) None ≡ Some n → (b ≡ true) × (n ≡ a)
fetched true a n e = (refl, cc)
fetched false a n e = let z : ◌≡◌ {A = ℕ} 0 1 = cc in absurd (omega arith)

not_fetched : (b : Bool) (a : ℕ) → cond b (Some a) None ≡ None → b ≡ false
not_fetched true a e = let z : ◌≡◌ {A = ℕ} 0 1 = cc in absurd (omega arith)
not_fetched false a e = refl

-- THE RULE FOR A CHIP: fetch the word that is named, decode it, get the word that is needed, execute
pub done : (lines : ℕ) (c : Core) (read : ℕ → ℕ) (n : ℕ) (i : Instruction) (x : ℕ) → fetch lines c ≡ Some n →
    i ≡ decode (read n) → Supplied read x (need lines c i) → one lines c read ≡ did (execute lines c i x)
unfolding does fetch
done lines c read n i x r p s =
    let f : (reaches lines 4 c.pc ≡ true) × (n ≡ c.pc / 4) = fetched (reaches lines 4 c.pc) (c.pc / 4) n r in
    let q : i ≡ decode (read (c.pc / 4)) = p ∙ ap (λ m. decode (read m)) f.1 in
    supplied_does lines c read x (subst (λ j. Supplied read x (need lines c j)) q s)
    ∙ ap (λ b. cond b (did (execute lines c (decode (read (c.pc / 4))) x)) stops) f.0 ∙ ap (λ j. did (execute lines c j x)) (sym q)

-- and a core that fetches nothing stops
pub not_done : (lines : ℕ) (c : Core) (read : ℕ → ℕ) → fetch lines c ≡ None → one lines c read ≡ stops
unfolding one does fetch
not_done lines c read r =
    ap (λ b. cond b (did (execute lines c (decode (read (c.pc / 4))) (read (address c (decode (read (c.pc / 4))) / 4)))) stops) (not_fetched (reaches lines 4 c.pc) (c.pc / 4) r)

-- a fetch is from a word of memory
pub fetch_within : (lines : ℕ) (c : Core) (n : ℕ) → fetch lines c ≡ Some n → n < 8 * lines
unfolding fetch
fetch_within lines c n e =
    let f : (reaches lines 4 c.pc ≡ true) × (n ≡ c.pc / 4) = fetched (reaches lines 4 c.pc) (c.pc / 4) n e in
    omega (arith, within_reach lines 4 c.pc f.0)
