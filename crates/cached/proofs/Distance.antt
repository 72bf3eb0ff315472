-- How many requests more: what a request and a line that is taken do to that number. Of one cache, with no chip around it.
use Rattle.std.proofs.Common.{◌≡◌, ℕ, suc, ◌+◌, ◌/◌, ◌≤◌, Bool, true, false, eqb, ◌≢◌, ◌⊎◌, List, Some, None, Option, sym, refl, ap, ◌∙◌, subst, inl, inr, arith}
use Rattle.rv32.specs.declared.core_state.Need.{Need}
use Rattle.rv32.specs.declared.core_state.Need.TheVariants.{Nothing, Read, Write}
use Rattle.cores.specs.Machines.{pick}
use Rattle.cores.specs.Put.{put}
use Rattle.cores.proofs.Basics.{choose, same, differ}
use Rattle.cached.specs.Kind.{needed, word_of, Kind, code, to_fetch}
use Rattle.cached.specs.Rank.{covers, far, far_in, same_line}
use Rattle.cache.specs.Slots.{home, lacks, Found, Lack, Slot, cached, goes_first, chosen, empty, find, first, found, has, holds, line_of, missing, owns, ready, seek, to_read, to_write, word_at}
use Rattle.cached.proofs.Base.{at_put, clash}
use Rattle.cached.proofs.Facts.{not_ready}

found_is : (p q : ℕ) → found p ≡ found q → p ≡ q
found_is p q e = cc

not_found : {P : Type 0} (p : ℕ) → missing ≡ found p → P
not_found p e = let z : ◌≡◌ {A = ℕ} 0 1 = cc in absurd (omega arith)

lacks_is : (a b : ℕ) (o u : Bool) → lacks a o ≡ lacks b u → (a ≡ b) × (o ≡ u)
lacks_is a b o u e = (cc, cc)

-- a line that is found is still found where its place is as it was, and no place before it has it
pub found_keeps : (f g : ℕ → Slot) (k a q : ℕ) → find f k a ≡ found q → g q ≡ f q → (has (f (home k a)) a ≡ false → has (g (home k a)) a ≡ false) → find g k a ≡ found q
found_keeps f g k a q e s h = go (has (f (home k a)) a) (has (f (suc (home k a))) a) refl refl e
  where
    go : (x y : Bool) → has (f (home k a)) a ≡ x → has (f (suc (home k a))) a ≡ y → pick x (found (home k a)) (pick y (found (suc (home k a))) missing) ≡ found q → find g k a ≡ found q
    go true y i j e = let z = found_is (home k a) q e in rw (z, s, ← z, i)
    go false true i j e = let z = found_is (suc (home k a)) q e in rw (h i, z, s, ← z, j)
    go false false i j e = not_found q e

-- a need to write
abbrev pub is_write : Need → Bool
is_write Nothing = false
is_write (Read x) = false
is_write (Write x) = true

-- an instruction is fetched to be read
pub plain : (κ : Kind) (n : ℕ) (x : κ.isa.Cpu) → is_write (code κ n x) ≡ false
plain κ n x = fetched (κ.looks n x)
  where
    fetched : (f : Option ℕ) → is_write (to_fetch f) ≡ false
    fetched None = refl
    fetched (Some y) = refl

-- the line of the instruction stays where it is
abbrev pub Stays : ℕ → (ℕ → Slot) → (ℕ → Slot) → Need → Type 0
Stays k f g Nothing = Unit {0}
Stays k f g (Read x) = (q : ℕ) → find f k (x / 8) ≡ found q → (find g k (x / 8) ≡ found q) × (g q ≡ f q)
Stays k f g (Write x) = Unit {0}

pub look_stays : (k : ℕ) (f g : ℕ → Slot) (l : Need) → is_write l ≡ false → seek f k l ≡ ready → Stays k f g l → (seek g k l ≡ ready) × (word_of l (cached g k) ≡ word_of l (cached f k))
look_stays k f g Nothing w e h = (refl, refl)
look_stays k f g (Read x) w e h = go (find f k (x / 8)) refl e
  where
    go : (r : Found) → find f k (x / 8) ≡ r → to_read r x ≡ ready → (to_read (find g k (x / 8)) x ≡ ready) × (word_at g (find g k (x / 8)) x ≡ word_at f (find f k (x / 8)) x)
    go missing i e = not_ready (x / 8) false e
    go (found q) i e = let z = h q i in (rw z.0, rw (z.0, i, z.1))
look_stays k f g (Write x) w e h = clash refl w

-- what is not there does not come by letting go
pub missing_stays : (f : ℕ → Slot) (k a p : ℕ) → find f k a ≡ missing → find (put f p empty) k a ≡ missing
missing_stays f k a p e = go (has (f (home k a)) a) (has (f (suc (home k a))) a) refl refl e
  where
    less : (q : ℕ) → has (f q) a ≡ false → has (put f p empty q) a ≡ false
    less q h = at_put (λ z. has z a ≡ false) f p empty q (λ i. refl) (λ i. h)

    go : (x y : Bool) → has (f (home k a)) a ≡ x → has (f (suc (home k a))) a ≡ y → pick x (found (home k a)) (pick y (found (suc (home k a))) missing) ≡ missing → find (put f p empty) k a ≡ missing
    go true y i j e = not_found (home k a) (sym e)
    go false true i j e = not_found (suc (home k a)) (sym e)
    go false false i j e = rw (less (home k a) i, less (suc (home k a)) j)

pub found_has : (f : ℕ → Slot) (k a q : ℕ) → find f k a ≡ found q → (has (f q) a ≡ true) × ((q ≡ home k a) ⊎ ((q ≡ suc (home k a)) × (has (f (home k a)) a ≡ false)))
found_has f k a q e = go (has (f (home k a)) a) (has (f (suc (home k a))) a) refl refl e
  where
    go : (x y : Bool) → has (f (home k a)) a ≡ x → has (f (suc (home k a))) a ≡ y → pick x (found (home k a)) (pick y (found (suc (home k a))) missing) ≡ found q →
        (has (f q) a ≡ true) × ((q ≡ home k a) ⊎ ((q ≡ suc (home k a)) × (has (f (home k a)) a ≡ false)))
    go true y i j e = let z = found_is (home k a) q e in (rw (← z) i, inl (sym z))
    go false true i j e = let z = found_is (suc (home k a)) q e in (rw (← z) j, inr (sym z, i))
    go false false i j e = not_found q e

-- the place that is given up is not that of line c
one_line : (x : Slot) (a c : ℕ) → has x a ≡ true → has x c ≡ true → a ≡ c
one_line x a c h i = grind arith

spare_home : (x y : Slot) (c : ℕ) (w : Bool) → has x c ≡ true → goes_first x y c w ≡ false
spare_home x y c w h = grind arith

spare_next : (x y : Slot) (c : ℕ) (w : Bool) → has x c ≡ false → has y c ≡ true → goes_first x y c w ≡ true
spare_next x y c w h i = grind arith

home_apart : (k a c : ℕ) → home k c ≢ suc (home k a)
home_apart k a c e = omega arith

pub spared : (f : ℕ → Slot) (k a c q : ℕ) (w : Bool) → find f k c ≡ found q → c ≢ a → q ≢ chosen (find f k a) k a (goes_first (f (home k a)) (f (suc (home k a))) c w)
spared f k a c q w e n i = go (find f k a) refl i
  where
    z : (has (f q) c ≡ true) × ((q ≡ home k c) ⊎ ((q ≡ suc (home k c)) × (has (f (home k c)) c ≡ false)))
    z = found_has f k c q e

    at_home : q ≡ home k a → goes_first (f (home k a)) (f (suc (home k a))) c w ≡ false
    at_home j = spare_home (f (home k a)) (f (suc (home k a))) c w (rw j at z.0)

    at_next : q ≡ suc (home k a) → goes_first (f (home k a)) (f (suc (home k a))) c w ≡ true
    at_next j = elim z.1 [
      | inl h ↦ absurd (home_apart k a c (sym h ∙ j))
      | inr h ↦ spare_next (f (home k a)) (f (suc (home k a))) c w (rw (suc_is (home k c) (home k a) (sym h.0 ∙ j)) at h.1) (rw j at z.0)
    ]
      where
        suc_is : (x y : ℕ) → suc x ≡ suc y → x ≡ y
        suc_is x y e = omega arith

    go : (r : Found) → find f k a ≡ r → q ≡ chosen r k a (goes_first (f (home k a)) (f (suc (home k a))) c w) → ⊥
    go (found p) j i = n (one_line (f q) c a z.0 (rw (← i) at (found_has f k a p j).0))
    go missing j i = split (goes_first (f (home k a)) (f (suc (home k a))) c w) refl i
      where
        split : (b : Bool) → goes_first (f (home k a)) (f (suc (home k a))) c w ≡ b → q ≡ pick b (home k a) (suc (home k a)) → ⊥
        split true h i = clash h (at_home i)
        split false h i = clash (at_next i) h

-- no line twice in a cache
abbrev pub Single : (ℕ → Slot) → ℕ → Type 0
Single f k = (c : ℕ) → has (f (home k c)) c ≡ true → has (f (suc (home k c))) c ≡ true → ⊥

gone_own : (f : ℕ → Slot) (k a q : ℕ) → Single f k → find f k a ≡ found q → find (put f q empty) k a ≡ missing
gone_own f k a q s e = go (has (f (home k a)) a) (has (f (suc (home k a))) a) refl refl e
  where
    here : (p : ℕ) → has (put f p empty p) a ≡ false
    here p = grind arith

    less : (p q : ℕ) → has (f q) a ≡ false → has (put f p empty q) a ≡ false
    less p q h = at_put (λ z. has z a ≡ false) f p empty q (λ i. refl) (λ i. h)

    go : (x y : Bool) → has (f (home k a)) a ≡ x → has (f (suc (home k a))) a ≡ y → pick x (found (home k a)) (pick y (found (suc (home k a))) missing) ≡ found q → find (put f q empty) k a ≡ missing
    go true true i j e = absurd (s a i j)
    go true false i j e = let z = found_is (home k a) q e in rw (← z, here (home k a), less (home k a) (suc (home k a)) j)
    go false true i j e = let z = found_is (suc (home k a)) q e in rw (← z, here (suc (home k a)), less (suc (home k a)) (home k a) i)
    go false false i j e = not_found q e

put_other : (f : ℕ → Slot) (p q : ℕ) (x : Slot) → q ≢ p → put f p x q ≡ f q
put_other f p q x n = at_put (λ z. z ≡ f q) f p x q (λ i. absurd (n i)) (λ i. refl)

-- letting go of a place for line a leaves the line of the instruction, if that is another
let_go_stays : (f : ℕ → Slot) (k a : ℕ) (w : Bool) (l : Need) → same_line l a ≡ false → Stays k f (put f (chosen (find f k a) k a (goes_first (f (home k a)) (f (suc (home k a))) (line_of l) w)) empty) l
let_go_stays f k a w Nothing n = tt
let_go_stays f k a w (Write x) n = tt
let_go_stays f k a w (Read x) n = λ q e.
    let p : ℕ = chosen (find f k a) k a (goes_first (f (home k a)) (f (suc (home k a))) (x / 8) w) in
    let i : put f p empty q ≡ f q = put_other f p q empty (spared f k a (x / 8) q w e (differ (x / 8) a n)) in
    (found_keeps f (put f p empty) k (x / 8) q e i (λ h. at_put (λ z. has z (x / 8) ≡ false) f p empty (home k (x / 8)) (λ j. refl) (λ j. h)), i)

module _ (k : ℕ) (f : ℕ → Slot) (l : Need) (T : ℕ → Need) (plain : is_write l ≡ false) where
  abbrev pub number_left : (ℕ → Slot) → Lack → ℕ
  number_left g out = far (seek g k l) out l (needed l T (cached g k))

  -- a request brings the core nearer
  module _ (a : ℕ) (o w : Bool) (single : Single f k) where
    abbrev g : ℕ → Slot
    g = put f (chosen (find f k a) k a (goes_first (f (home k a)) (f (suc (home k a))) (line_of l) w)) empty

    abbrev Want : Need → Type 0
    Want d = ((y : ℕ) × (d ≡ Read y) × (y / 8 ≡ a) × (o ≡ false) × (find f k a ≡ missing)) ⊎ ((y : ℕ) × (d ≡ Write y) × (y / 8 ≡ a) × (o ≡ true))

    want : (d : Need) → seek f k d ≡ lacks a o → Want d
    want Nothing e = not_ready a o (sym e)
    want (Read y) e = go (find f k (y / 8)) refl e
      where
        go : (r : Found) → find f k (y / 8) ≡ r → to_read r y ≡ lacks a o → Want (Read y)
        go missing i e = let z = lacks_is (y / 8) a false o e in inl (y, refl, z.0, sym z.1, rw (← z.0) i)
        go (found q) i e = not_ready a o (sym e)
    want (Write y) e = go (find f k (y / 8)) refl e
      where
        go : (r : Found) → find f k (y / 8) ≡ r → to_write f r y ≡ lacks a o → Want (Write y)
        go missing i e = let z = lacks_is (y / 8) a true o e in inr (y, refl, z.0, sym z.1)
        go (found q) i e = choose (λ z. z ≡ lacks a o → Want (Write y)) (owns (f q) (y / 8)) ready (lacks (y / 8) true) (λ u h. not_ready a o (sym h))
            (λ u h. let z = lacks_is (y / 8) a true o h in inr (y, refl, z.0, sym z.1)) e

    covers_true : (b c : ℕ) (u : Bool) → b ≡ c → covers (lacks b u) c u ≡ true
    covers_true b c u e = grind arith

    -- the line that is wanted is another than that of the instruction, which is there
    nearer : (d : Need) → Want d → same_line l a ≡ false → far_in (lacks a o) l d + 1 ≤ far_in ready l d
    nearer d (inl z) n = rw (z.1, z.3, z.2, n, covers_true a a false refl) (omega arith)
    nearer d (inr z) n = rw (z.1, z.3, z.2, n, covers_true a a true refl) (omega arith)

    other : seek f k l ≡ ready → seek f k (needed l T (cached f k)) ≡ lacks a o → same_line l a ≡ false → number_left g (lacks a o) + 1 ≤ number_left f ready
    other e h n = let z = look_stays k f g l plain e (let_go_stays f k a w l n) in
        rw (z.0, z.1, e) (nearer (needed l T (cached f k)) (want (needed l T (cached f k)) h) n)

    own : (q : ℕ) → find f k a ≡ found q → same_line l a ≡ true → seek f k l ≡ ready → seek g k l ≡ lacks a false → seek f k (needed l T (cached f k)) ≡ lacks a o → number_left g (lacks a o) + 1 ≤ number_left f ready
    own q e n h i j = rw (h, i) (go (needed l T (cached f k)) (want (needed l T (cached f k)) j))
      where
        go : (d : Need) → Want d → pick (covers (lacks a o) a true) 1 (pick (covers (lacks a o) a false) 2 3) + 1 ≤ far_in ready l d
        go d (inl z) = not_found q (sym z.4 ∙ e)
        go d (inr z) = rw (z.1, z.3, z.2, n, covers_true a a true refl) (omega arith)

    fetching_look : (b : ℕ) → seek f k l ≡ lacks b false → seek g k l ≡ lacks b false → (b ≡ a) × (false ≡ o) → number_left g (lacks a o) + 1 ≤ number_left f ready
    fetching_look b h i e = rw (h, i, e.0, ← e.1, not_more a, covers_true a a false refl) (omega arith)
      where
        not_more : (a : ℕ) → covers (lacks a false) a true ≡ false
        not_more a = grind arith

    abbrev Look : Type 0
    Look = ((seek f k l ≡ ready) × (same_line l a ≡ false)) ⊎ (((q : ℕ) × (find f k a ≡ found q) × (same_line l a ≡ true) × (seek f k l ≡ ready) × (seek g k l ≡ lacks a false))
        ⊎ ((b : ℕ) × (seek f k l ≡ lacks b false) × (seek g k l ≡ lacks b false)))

    look : (m : Need) → l ≡ m → is_write m ≡ false → Look
    look Nothing e n = inl (rw e, rw e)
    look (Write x) e n = clash refl n
    look (Read x) e n = go (find f k (x / 8)) refl
      where
        at_own : (q : ℕ) → x / 8 ≡ a → find f k (x / 8) ≡ found q → find g k (x / 8) ≡ missing
        at_own q j i = rw j (rw (rw j at i) (gone_own f k a q single (rw j at i)))

        go : (r : Found) → find f k (x / 8) ≡ r → Look
        go missing i = inr (inr (x / 8, rw (e, i), ap (λ (m : Need). seek g k m) e ∙ ap (λ (r : Found). to_read r x) (missing_stays f k (x / 8) _ i)))
        go (found q) i = elim (test (eqb (x / 8) a)) [ inl u ↦ let j = same (x / 8) a u in inr (inl (q, rw (← j) i, rw e u, rw (e, i), ap (λ (m : Need). seek g k m) e ∙ ap (λ (r : Found). to_read r x) (at_own q j i) ∙ ap (λ (b : ℕ). lacks b false) j)) | inr u ↦ inl (rw (e, i), rw e u) ]
          where
            test : (b : Bool) → (b ≡ true) ⊎ (b ≡ false)
            test true = inl refl
            test false = inr refl

    pub send_nearer : first (seek f k l) (seek f k (needed l T (cached f k))) ≡ lacks a o → number_left g (lacks a o) + 1 ≤ number_left f ready
    send_nearer e = elim (look l refl plain) [
      | inl z ↦ other z.0 (rw z.0 at e) z.1
      | inr y ↦ elim y [ inl z ↦ own z.0 z.1 z.2 z.3 z.4 (rw z.3 at e) | inr z ↦ fetching_look z.0 z.1 z.2 (lacks_is z.0 a false o (rw z.1 at e)) ]
    ]

  -- a line that comes to an empty place is no hindrance, and may be the last that was missing
  module _ (p b : ℕ) (u d : Bool) (v : List ℕ) (vacant : f p ≡ empty) (at_place : (p ≡ home k b) ⊎ (p ≡ suc (home k b))) (single : Single (put f p (holds b u d v)) k) where
    abbrev h : ℕ → Slot
    h = put f p (holds b u d v)

    now : h p ≡ holds b u d v
    now = at_put (λ z. z ≡ holds b u d v) f p (holds b u d v) p (λ i. refl) (λ n. absurd (n refl))

    not_empty : (x : Slot) (c : ℕ) → has x c ≡ true → x ≡ empty → ⊥
    not_empty x c i e = clash i (rw e)

    other_place : (c q : ℕ) → find f k c ≡ found q → h q ≡ f q
    other_place c q e = put_other f p q (holds b u d v) (λ i. not_empty (f q) c (found_has f k c q e).0 (rw i vacant))

    added : (c q : ℕ) → find f k c ≡ found q → (find h k c ≡ found q) × (h q ≡ f q)
    added c q e = (found_keeps f h k c q e (other_place c q e) (λ n. go n (has (h (home k c)) c) refl), other_place c q e)
      where
        next : has (f (home k c)) c ≡ false → has (h (suc (home k c))) c ≡ true
        next n = elim (found_has f k c q e).1 [
          | inl i ↦ clash (rw i at (found_has f k c q e).0) n
          | inr i ↦ rw (← i.0) (ap (λ (z : Slot). has z c) (other_place c q e) ∙ (found_has f k c q e).0)
        ]

        go : has (f (home k c)) c ≡ false → (x : Bool) → has (h (home k c)) c ≡ x → x ≡ false
        go n true i = absurd (single c i (next n))
        go n false i = refl

    stays : (m : Need) → Stays k f h m
    stays Nothing = tt
    stays (Read x) = λ q e. added (x / 8) q e
    stays (Write x) = tt

    has_self : has (holds b u d v) b ≡ true
    has_self = grind arith

    come : find h k b ≡ found p
    come = elim at_place [ inl i ↦ first_place i | inr i ↦ second_place i (has (h (home k b)) b) refl ]
      where
        here : has (h p) b ≡ true
        here = ap (λ (z : Slot). has z b) now ∙ has_self

        first_place : p ≡ home k b → find h k b ≡ found p
        first_place i = subst (λ (z : ℕ). pick (has (h z) b) (found z) (pick (has (h (suc z)) b) (found (suc z)) missing) ≡ found p) i (ap (λ (y : Bool). pick y (found p) (pick (has (h (suc p)) b) (found (suc p)) missing)) here)

        second_place : p ≡ suc (home k b) → (x : Bool) → has (h (home k b)) b ≡ x → find h k b ≡ found p
        second_place i true j = absurd (single b j (subst (λ (z : ℕ). has (h z) b ≡ true) i here))
        second_place i false j = ap (λ (y : Bool). pick y (found (home k b)) (pick (has (h (suc (home k b))) b) (found (suc (home k b))) missing)) j
            ∙ subst (λ (z : ℕ). pick (has (h z) b) (found z) missing ≡ found p) i (ap (λ (y : Bool). pick y (found p) missing) here)

    abbrev Either : Need → ℕ → Type 0
    Either e n = (seek h k e ≡ ready) ⊎ (far_in ready l e ≤ n)

    read_come : (y : ℕ) → b ≡ y / 8 → seek h k (Read y) ≡ ready
    read_come y i = ap (λ (r : Found). to_read r y) (subst (λ (z : ℕ). find h k z ≡ found p) i come)

    write_come : (y : ℕ) → b ≡ y / 8 → u ≡ true → seek h k (Write y) ≡ ready
    write_come y i j = ap (λ (r : Found). to_write h r y) (subst (λ (z : ℕ). find h k z ≡ found p) i come)
        ∙ ap (λ (z : Slot). pick (owns z (y / 8)) ready (lacks (y / 8) true)) (now ∙ ap (λ (z : Bool). holds b z d v) j) ∙ ap (λ (z : Bool). pick z ready (lacks (y / 8) true)) (owns_self i)
      where
        owns_self : b ≡ y / 8 → owns (holds b true d v) (y / 8) ≡ true
        owns_self i = grind arith

    covered : (c : ℕ) (o : Bool) → covers (lacks b u) c o ≡ true → (b ≡ c) × (o ≡ true → u ≡ true)
    covered c o e = (grind arith, λ i. grind arith)

    -- the instruction is there already
    inside : (e : Need) → Either e (far_in (lacks b u) l e)
    inside Nothing = inl refl
    inside (Read y) = go (covers (lacks b u) (y / 8) false) refl
      where
        go : (z : Bool) → covers (lacks b u) (y / 8) false ≡ z → Either (Read y) (far_in (lacks b u) l (Read y))
        go true i = inl (read_come y (covered (y / 8) false i).0)
        go false i = inr (rw i (omega arith))
    inside (Write y) = go (covers (lacks b u) (y / 8) true) refl
      where
        go : (z : Bool) → covers (lacks b u) (y / 8) true ≡ z → Either (Write y) (far_in (lacks b u) l (Write y))
        go true i = inl (write_come y (covered (y / 8) true i).0 ((covered (y / 8) true i).1 refl))
        go false i = inr (rw i (omega arith))

    far_two : (e : Need) → far_in ready l e ≤ 2
    far_two Nothing = omega arith
    far_two (Read y) = choose (λ (z : ℕ). z ≤ 2) (same_line l (y / 8)) _ _ (λ i. omega arith) (λ i. omega arith)
    far_two (Write y) = choose (λ (z : ℕ). z ≤ 2) (same_line l (y / 8)) _ _ (λ i. omega arith) (λ i. omega arith)

    -- the instruction came, to write
    whole : (e : Need) → u ≡ true → ((y : ℕ) → same_line l y ≡ true → b ≡ y) → Either e 1
    whole Nothing j s = inl refl
    whole (Read y) j s = go (same_line l (y / 8)) refl
      where
        go : (z : Bool) → same_line l (y / 8) ≡ z → Either (Read y) 1
        go true i = inl (read_come y (s (y / 8) i))
        go false i = inr (rw i (omega arith))
    whole (Write y) j s = go (same_line l (y / 8)) refl
      where
        go : (z : Bool) → same_line l (y / 8) ≡ z → Either (Write y) 1
        go true i = inl (write_come y (s (y / 8) i) j)
        go false i = inr (rw i (omega arith))

    -- the line of the instruction, where it was lacking
    line_lacked : (c : ℕ) (o : Bool) (m : Need) → l ≡ m → is_write m ≡ false → seek f k m ≡ lacks c o → (x : ℕ) × (l ≡ Read x) × (x / 8 ≡ c)
    line_lacked c o Nothing e n i = not_ready c o (sym i)
    line_lacked c o (Write x) e n i = clash refl n
    line_lacked c o (Read x) e n i = (x, e, go (find f k (x / 8)) i)
      where
        go : (r : Found) → to_read r x ≡ lacks c o → x / 8 ≡ c
        go missing i = (lacks_is (x / 8) c false o i).0
        go (found q) i = not_ready c o (sym i)

    abbrev D : Need
    D = needed l T (cached h k)

    far_three : number_left h ready ≤ 3
    far_three = go (seek h k l)
      where
        go : (s : Lack) → far s ready l D ≤ 3
        go ready = let z = far_two D in omega arith
        go (lacks c o) = omega arith

    abbrev Goal : ℕ → Type 0
    Goal n = (first (seek h k l) (seek h k D) ≡ ready) ⊎ (number_left h ready ≤ n)

    came : (c : ℕ) (o : Bool) → seek f k l ≡ lacks c o → b ≡ c → (z : Bool) → u ≡ z → Goal (pick (covers (lacks b z) c true) 1 (pick (covers (lacks b z) c false) 2 3))
    came c o e i z j = go z j
      where
        t : (x : ℕ) × (l ≡ Read x) × (x / 8 ≡ c)
        t = line_lacked c o l refl plain e

        there : seek h k l ≡ ready
        there = ap (λ (m : Need). seek h k m) t.1 ∙ read_come t.0 (i ∙ sym t.2)

        only : (y : ℕ) → same_line l y ≡ true → b ≡ y
        only y n = i ∙ sym t.2 ∙ same (t.0 / 8) y (rw t.1 at n)

        one_more : (b c : ℕ) → b ≡ c → covers (lacks b true) c true ≡ true
        one_more b c e = grind arith

        read_only : (b c : ℕ) → b ≡ c → (covers (lacks b false) c true ≡ false) × (covers (lacks b false) c false ≡ true)
        read_only b c e = (grind arith, grind arith)

        go : (z : Bool) → u ≡ z → Goal (pick (covers (lacks b z) c true) 1 (pick (covers (lacks b z) c false) 2 3))
        go true j = rw (one_more b c i) (elim (whole D j only) [ inl n ↦ inl (rw there n) | inr n ↦ inr (rw there n) ])
        go false j = rw ((read_only b c i).0, (read_only b c i).1) (inr (rw there (far_two D)))

    pub take_nearer : (first (seek h k l) (seek h k (needed l T (cached h k))) ≡ ready) ⊎ (number_left h ready ≤ number_left f (lacks b u))
    take_nearer = go (seek f k l) refl
      where
        lacking : (c : ℕ) (o : Bool) → seek f k l ≡ lacks c o → (x : Bool) → covers (lacks b u) c false ≡ x → Goal (pick (covers (lacks b u) c true) 1 (pick (covers (lacks b u) c false) 2 3))
        lacking c o e true i = came c o e (covered c false i).0 u refl
        lacking c o e false i = rw (i, no_more i) (inr far_three)
          where
            no_more : covers (lacks b u) c false ≡ false → covers (lacks b u) c true ≡ false
            no_more i = grind arith

        go : (s : Lack) → seek f k l ≡ s → Goal (far s (lacks b u) l (needed l T (cached f k)))
        go ready e = let z = look_stays k f h l plain e (stays l) in rw (z.0, z.1) (inside (needed l T (cached f k)))
        go (lacks c o) e = lacking c o e (covers (lacks b u) c false) refl
