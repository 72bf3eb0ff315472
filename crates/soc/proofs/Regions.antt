-- The words that are written, read back as parts of the chip's state.
use Rattle.std.proofs.Common.{◌≡◌, ℕ, ◌%◌, ◌<◌, ◌≤◌, min, Bool, true, false, List, [], ◌∷◌, length, take, set, is_some, Some, None, Option, unwrap_or, sym, refl, ap, ◌∙◌, inl, inr, arith}
use borrow.Rule.Slice.PartMut.{put_mid}
use mir.Val.{bool_byte}
use Rattle.std.proofs.lemmas.List.{take_at, get_or-set_same}
use Rattle.words.specs.Parts.{part}
use Rattle.words.proofs.Parts.{part_here, part_other, part_part, put_length}
use Rattle.cores.specs.Machines.{pick}
use Rattle.cores.specs.Registers.{flag, cpus_of, ons_of}
use Rattle.cores.specs.declared.port.Line.{Line}
use Rattle.soc.specs.Layout.{buffer_of, asked_of, control_of, state_of, state_from, shared}
use Rattle.soc.specs.declared.control.Control.{Control}

pub picked : {A : Type 0} (b : Bool) (x y : A) → b ≡ true → pick b x y ≡ x
picked b x y e = ap (λ t. pick t x y) e

pub unpicked : {A : Type 0} (b : Bool) (x y : A) → b ≡ false → pick b x y ≡ y
unpicked b x y e = ap (λ t. pick t x y) e

-- a buffer that was filled, and one that was emptied
same_line : (x y : Line) → x.number ≡ y.number → x.words ≡ y.words → x ≡ y
same_line x y a b = λ i. record { number = a i; words = b i }

pub buffer_filled : (b ys zs : List ℕ) (l : Line) → ys ≡ 1 ∷ l.number ∷ [] → zs ≡ l.words → length zs ≡ 8 → buffer_of (put_mid 2 8 (put_mid 0 2 b ys) zs) ≡ Some l
unfolding part
buffer_filled b ys zs l e f h =
    rw e (ap Some (same_line (record { number = l.number; words = part 2 8 (put_mid 2 8 (put_mid 0 2 b (1 ∷ l.number ∷ [])) zs) }) l refl (take_at zs _ 8 h ∙ f)))

pub buffer_emptied : (b : List ℕ) → length b ≡ 10 → buffer_of (set b 0 0) ≡ None
buffer_emptied b h = unpicked _ _ _ (ap flag (get_or-set_same b 0 0 0 (omega arith)))

-- what the cores share, after it was written: five words, and the two buffers
asked_written : (a : Option ℕ) → asked_of (bool_byte (is_some a)) (unwrap_or a 0) ≡ a
asked_written None = refl
asked_written (Some x) = refl

least : (n : ℕ) → n ≤ 4 → min n 4 ≡ n
least n h = omega arith

small : (n : ℕ) → n < 4 → n % 4 ≡ n
small n h = omega arith

same_control : (x y : Control) → x.count ≡ y.count → x.size ≡ y.size → x.turn ≡ y.turn → x.asked ≡ y.asked → x.fetched ≡ y.fetched → x.loaded ≡ y.loaded → x ≡ y
same_control x y a b c d e f = λ i. record { count = a i; size = b i; turn = c i; asked = d i; fetched = e i; loaded = f i }

abbrev front : Control → List ℕ
front c = c.count ∷ c.size ∷ c.turn ∷ bool_byte (is_some c.asked) ∷ unwrap_or c.asked 0 ∷ []

pub control_written : (b ys fs ls : List ℕ) (c : Control) → length b ≡ 25 → c.count ≤ 4 → c.turn < 4 → ys ≡ front c → length fs ≡ 10 → length ls ≡ 10 →
    buffer_of fs ≡ c.fetched → buffer_of ls ≡ c.loaded → control_of (put_mid 15 10 (put_mid 5 10 (put_mid 0 5 b ys) fs) ls) ≡ c
control_written b ys fs ls c n p q e f l x y =
    rw e
    (let v : List ℕ = put_mid 0 5 b (front c) in
    let w : List ℕ = put_mid 5 10 v fs in
    let one : length v ≡ 25 = put_length 0 5 b (front c) refl (omega arith) ∙ n in
    let two : length w ≡ 25 = put_length 5 10 v fs f (omega arith) ∙ one in
    same_control (control_of (put_mid 15 10 w ls)) c (least c.count p) refl (small c.turn q) (asked_written c.asked)
    (ap buffer_of (part_other 5 10 15 10 w ls l (omega arith) (inl (omega arith)) ∙ part_here 5 10 10 v fs f (omega arith)) ∙ x)
    (ap buffer_of (part_here 15 10 10 w ls l (omega arith)) ∙ y))

pub control_within : (b : List ℕ) (c : Control) → c ≡ control_of b → (c.count ≤ 4) × (c.turn < 4)
control_within b c e = (omega (arith, ap (λ (x : Control). x.count) e), omega (arith, ap (λ (x : Control). x.turn) e))

-- the state, after one region of the words was written
module _ (w ys : List ℕ) (h : 169 ≤ length w) where
  pub wrote_cores : length ys ≡ 140 → state_of (put_mid 0 140 w ys) ≡ state_from (cpus_of ys) (state_of w).on (shared (state_of w))
  unfolding state_of
  wrote_cores e = λ i. state_from
      (cpus_of (part_here 0 140 140 w ys e (omega arith) i))
      (ons_of (part_other 140 4 0 140 w ys e (omega arith) (inr (omega arith)) i))
      (control_of (part_other 144 25 0 140 w ys e (omega arith) (inr (omega arith)) i))

  pub wrote_ons : length ys ≡ 4 → state_of (put_mid 140 4 w ys) ≡ state_from (state_of w).cpu (ons_of ys) (shared (state_of w))
  unfolding state_of
  wrote_ons e = λ i. state_from
      (cpus_of (part_other 0 140 140 4 w ys e (omega arith) (inl (omega arith)) i))
      (ons_of (part_here 140 4 4 w ys e (omega arith) i))
      (control_of (part_other 144 25 140 4 w ys e (omega arith) (inr (omega arith)) i))

  pub wrote_control : length ys ≡ 25 → state_of (put_mid 144 25 w ys) ≡ state_from (state_of w).cpu (state_of w).on (control_of ys)
  unfolding state_of
  wrote_control e = λ i. state_from
      (cpus_of (part_other 0 140 144 25 w ys e (omega arith) (inl (omega arith)) i))
      (ons_of (part_other 140 4 144 25 w ys e (omega arith) (inl (omega arith)) i))
      (control_of (part_here 144 25 25 w ys e (omega arith) i))

-- the state lies in the first 169 words
state_front : (w : List ℕ) → state_of (part 0 169 w) ≡ state_of w
unfolding state_of
state_front w = λ i. state_from
    (cpus_of (part_part 0 169 0 140 w (omega arith) i))
    (ons_of (part_part 0 169 140 4 w (omega arith) i))
    (control_of (part_part 0 169 144 25 w (omega arith) i))

pub read_front : (w : List ℕ) → state_of (take 169 w) ≡ state_of w
unfolding part
read_front w = state_front w

pub wrote_front : (w ys : List ℕ) → length ys ≡ 169 → 169 ≤ length w → state_of (put_mid 0 169 w ys) ≡ state_of ys
wrote_front w ys e h = sym (state_front (put_mid 0 169 w ys)) ∙ ap state_of (part_here 0 169 169 w ys e h)
