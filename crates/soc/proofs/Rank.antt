-- How many lines the core whose turn it is may still ask for: one less when it asks, and no line that comes and no interrupt makes it more.
use Rattle.std.proofs.Common.{◌≡◌, ℕ, suc, ◌+◌, ◌/◌, ◌<◌, ◌≤◌, Bool, true, false, eqb, Some, None, Option, sym, refl, ap, ◌∙◌, subst, arith}
use mathlib.Core.Bool.{false≢true}
use Rattle.cores.specs.Machines.{pick}
use Rattle.cores.specs.Loop.{each}
use Rattle.cores.specs.declared.port.Line.{Line}
use Rattle.cores.proofs.Basics.{by_test, choose, same}
use Rattle.soc.specs.Kind.{Kind, Laws, needed, needs}
use Rattle.soc.specs.Buffers.{holds, word_in, lies_in, lacks_code, lacks_data, first}
use Rattle.soc.specs.Soc.{State, mine, code_word, code_lack, data_lack, lacks, placed, takes, take_interrupt, ask}
use Rattle.soc.proofs.Lines.{not_none, code_here}
use Rattle.soc.proofs.Keeps.{Cpu}
use Rattle.soc.proofs.Events.{takes_parts, loop_rest, loop_cpu}

-- what may still be asked for, where x is lacked for the instruction, y for its data, and q is asked for: a line that is asked for and is not the
-- one that is lacked first may push another out of its buffer
abbrev pub left : Option ℕ → Option ℕ → Option ℕ → ℕ
left None None None = 0
left None (Some b) None = 1
left (Some b) y None = 2
left None None (Some a) = 2
left None (Some b) (Some a) = pick (eqb a b) 0 2
left (Some b) y (Some a) = pick (eqb a b) 1 2

left_two : (x y q : Option ℕ) → left x y q ≤ 2
left_two x y q = grind arith

left_one : (y : Option ℕ) → left None y None ≤ 1
left_one y = grind arith

-- a line is asked for
left_asks : (x y : Option ℕ) (a : ℕ) → first x y ≡ Some a → suc (left x y (Some a)) ≡ left x y None
left_asks x y a e = grind arith

turned : (a b : ℕ) → eqb a b ≡ true → eqb b a ≡ true
turned a b e = grind arith

none_some : {P : Type 0} (p : ℕ) → None ≡ Some p → P
none_some p e = not_none p (sym e)

picked_some : (b : Bool) (v p : ℕ) → pick b None (Some v) ≡ Some p → v ≡ p
picked_some true v p e = none_some p e
picked_some false v p e = cc

picked_both : (b c : Bool) (v p : ℕ) → pick b None (pick c None (Some v)) ≡ Some p → (b ≡ false) × (v ≡ p)
picked_both true c v p e = none_some p e
picked_both false c v p e = (refl, picked_some c v p e)

-- the line that was lacked for the instruction has come
code_filled : (t : Option ℕ) (f : Option Line) (l : Line) (p : ℕ) → lacks_code t f ≡ Some p → eqb l.number p ≡ true →
    lacks_code t (pick (lies_in t l.number) (Some l) f) ≡ None
code_filled None f l p e i = none_some p e
code_filled (Some x) f l p e i =
    let j : eqb l.number (x / 8) ≡ true = subst (λ a. eqb l.number a ≡ true) (sym (picked_some (holds f (x / 8)) (x / 8) p e)) i in
    rw (turned l.number (x / 8) j, j)

-- the line that was lacked for the data has come
data_filled : (u : Option ℕ) (f d : Option Line) (l : Line) (p : ℕ) → lacks_data u f d ≡ Some p → eqb l.number p ≡ true →
    (holds f l.number ≡ false) × (lacks_data u f (Some l) ≡ None)
data_filled None f d l p e i = none_some p e
data_filled (Some x) f d l p e i =
    let z = picked_both (holds f (x / 8)) (holds d (x / 8)) (x / 8) p e in
    let j : eqb l.number (x / 8) ≡ true = subst (λ a. eqb l.number a ≡ true) (sym z.1) i in
    (ap (holds f) (same l.number (x / 8) j) ∙ z.0, rw (z.0, j))

module _ (t : Option ℕ) (T : ℕ → Option ℕ) (f d : Option Line) (l : Line) where
  -- what is lacked after the line l has come, into the first buffer or into the second
  abbrev code_next : Bool → Option ℕ
  code_next b = lacks_code t (pick b (Some l) f)

  abbrev data_next : Bool → Option ℕ
  data_next b = lacks_data (needed t T (word_in (pick b (Some l) f) (pick b d (Some l)))) (pick b (Some l) f) (pick b d (Some l))

  abbrev left_next : Bool → ℕ
  left_next b = left (code_next b) (data_next b) None

  -- and after it has come into the one where it belongs
  abbrev came : ℕ
  came = left_next (lies_in t l.number)

  came_two : came ≤ 2
  came_two = left_two (code_next (lies_in t l.number)) (data_next (lies_in t l.number)) None

  came_code : code_next (lies_in t l.number) ≡ None → came ≤ 1
  came_code e = rw e (left_one (data_next (lies_in t l.number)))

-- the data's line comes where the instruction's is held
came_data : (t : Option ℕ) (T : ℕ → Option ℕ) (f d : Option Line) (l : Line) (p : ℕ) → lacks_code t f ≡ None → lacks_data (needed t T (word_in f d)) f d ≡ Some p →
    eqb l.number p ≡ true → came t T f d l ≡ 0
came_data None T f d l p e i j = none_some p i
came_data (Some x) T f d l p e i j =
    let h : holds f (x / 8) ≡ true = code_here x f e in
    let z = data_filled (T (word_in f d x)) f d l p i j in
    let n : eqb (x / 8) l.number ≡ false = by_test (eqb (x / 8) l.number) (λ k. absurd (false≢true (sym z.0 ∙ ap (holds f) (sym (same (x / 8) l.number k)) ∙ h))) (λ k. k) in
    let s : word_in f (Some l) x ≡ word_in f d x = rw h in
    let v : lacks_data (T (word_in f (Some l) x)) f (Some l) ≡ None = ap (λ w. lacks_data (T w) f (Some l)) s ∙ z.1 in
    ap (left_next (Some x) T f d l) n ∙ ap (λ c. left c (lacks_data (T (word_in f (Some l) x)) f (Some l)) None) e ∙ ap (λ c. left None c None) v

given_left : (t : Option ℕ) (T : ℕ → Option ℕ) (f d : Option Line) (l : Line) (x y : Option ℕ) → lacks_code t f ≡ x → lacks_data (needed t T (word_in f d)) f d ≡ y →
    came t T f d l ≤ left x y (Some l.number)
given_left t T f d l None None e i = came_two t T f d l
given_left t T f d l None (Some p) e i = choose (λ n. came t T f d l ≤ n) (eqb l.number p) 0 2 (λ j. omega (arith, came_data t T f d l p e i j)) (λ _. came_two t T f d l)
given_left t T f d l (Some p) y e i = choose (λ n. came t T f d l ≤ n) (eqb l.number p) 1 2 (λ j. came_code t T f d l (code_filled t f l p e j)) (λ _. came_two t T f d l)

-- two lines more where an interrupt may still be taken
abbrev twice : Bool → ℕ
twice true = 2
twice false = 0

twice_two : (b : Bool) → twice b ≤ 2
twice_two true = omega arith
twice_two false = omega arith

module _ (κ : Kind) where
  -- the same, for the chip with x as the registers of the core whose turn it is
  abbrev still_with : State κ → Cpu κ → ℕ
  still_with h x =
      twice (κ.isa.lets x)
      + left (lacks_code (κ.looks h.size x) h.fetched) (lacks_data (needs κ h.size x (word_in h.fetched h.loaded)) h.fetched h.loaded) h.asked

  abbrev pub still : State κ → ℕ
  still h = still_with h (mine κ h)

  pub still_four : (h : State κ) → still h ≤ 4
  still_four h = let z = twice_two (κ.isa.lets (mine κ h)) in let y = left_two (code_lack κ h) (data_lack κ h) h.asked in omega arith

  pub still_placed : (h : State κ) (l : Line) → h.asked ≡ Some l.number → still (placed κ l h) ≤ still h
  still_placed h l e = subst (λ (q : Option ℕ). still (placed κ l h) ≤ twice (κ.isa.lets (mine κ h)) + left (code_lack κ h) (data_lack κ h) q) (sym e)
      (let z = given_left (code_word κ h) (κ.touch h.size (mine κ h)) h.fetched h.loaded l (code_lack κ h) (data_lack κ h) refl refl in omega arith)

  pub still_asks : (h : State κ) (a : ℕ) → h.asked ≡ None → lacks κ h ≡ Some a → suc (still (ask κ a h).0) ≡ still h
  still_asks h a e i = subst (λ (q : Option ℕ). suc (still (ask κ a h).0) ≡ twice (κ.isa.lets (mine κ h)) + left (code_lack κ h) (data_lack κ h) q) (sym e)
      (let z = left_asks (code_lack κ h) (data_lack κ h) a i in omega arith)

  module _ (laws : Laws κ) where
    still_entered : (h : State κ) (x : Cpu κ) → κ.isa.lets x ≡ true → still_with h (κ.isa.enters x) ≤ still_with h x
    still_entered h x e = rw (laws.calm x, e) (let z = left_two (lacks_code (κ.looks h.size (κ.isa.enters x)) h.fetched)
        (lacks_data (needs κ h.size (κ.isa.enters x) (word_in h.fetched h.loaded)) h.fetched h.loaded) h.asked in omega arith)

    pub still_loop : (up : ℕ → Bool) (j : ℕ) (h : State κ) → h.turn < j → still (each (take_interrupt κ up) j h).0 ≤ still h
    still_loop up j h l = subst (λ (c : State κ). still c ≤ still h) (sym (loop_rest κ up j h))
        (subst (λ (x : Cpu κ). still_with h x ≤ still h) (sym (loop_cpu κ up h.turn h j l))
        (choose (λ (x : Cpu κ). still_with h x ≤ still h) (takes κ up h.turn h) _ _ (λ e. still_entered h (mine κ h) (takes_parts κ up h.turn h e).2) (λ _. omega arith)))
