-- A statement's bytes lie between its address and the next, and both lie in memory.
use Rattle.std.proofs.Common.{◌≡◌, ℕ, zero, suc, ◌+◌, ◌-◌, ◌%◌, ◌≤◌, eqb, ltb, List, [], ◌∷◌, ◌++◌, length, Some, None, Ok, Err, Option, Result, refl, ap, ◌∙◌, arith}
use Rattle.std.proofs.lemmas.Bool.{cond_both, ltb-false}
use Rattle.layout.specs.Laws.{Enough}
use Rattle.layout.specs.Layout.{after_place, aligned, bytes_in, count, end, next, outcome, padding, piece, reached, stored, unless, within}
use Rattle.encode.specs.declared.misfit.Misfit.{Misfit}
use Rattle.layout.specs.declared.fault.Fault.{Fault}
use Rattle.layout.specs.declared.fault.Fault.TheVariants.{Outside, Backwards, Misaligned}
use Rattle.layout.specs.declared.statement.Statement.{Statement}
use Rattle.layout.specs.declared.statement.Statement.TheVariants.{Label, Code, Data, Align, Origin}
use Rattle.layout.specs.declared.statement.Width.{Width}
use Rattle.layout.specs.declared.statement.Width.TheVariants.{Byte, Half, Word}

pub padding_length : (at n : ℕ) → length (padding at n) ≡ n
unfolding padding
padding_length at zero = refl
padding_length at (suc n) = let ih = padding_length (at + 1) n in cc

-- bytes r of a statement that is placed by p
Room : ℕ → Result (List ℕ) Fault → Result ℕ Fault → Type 0
Room here r p = here + length (bytes_in (after_place p r)) ≤ reached here p

-- what is not placed takes no room, and what is has room for n bytes
within_room : (size here e n : ℕ) (r : Result (List ℕ) Fault) → length (bytes_in r) ≤ n → here + n ≤ e → Room here r (within size e)
unfolding Room
within_room size here e n r l h = cond_both (ltb size e) (Err Outside) (Ok e) (Room here r) (λ _. omega arith) (λ _. omega arith)

aligned_up : (here bits : ℕ) → here ≤ aligned here bits
aligned_up here bits = grind arith

stored_length : (width : Width) (x : ℕ) → length (bytes_in (stored width x)) ≤ count width
stored_length Byte x = grind arith
stored_length Half x = grind arith
stored_length Word x = omega arith

unless_length : (o : Option Misfit) (w : ℕ) → length (bytes_in (unless o w)) ≤ 4
unless_length None w = omega arith
unless_length (Some m) w = omega arith

pub room : (size here : ℕ) (values : List ℕ) (s : Statement) → here + length (bytes_in (outcome size values here s)) ≤ next size here s
unfolding Room
room size here values (Label symbol) = omega arith
room size here values (Code i o p) =
    let r = piece values here (Code i o p) in
    cond_both (eqb (here % 4) 0) (within size (here + 4)) (Err Misaligned) (Room here r) (λ _. within_room size here (here + 4) 4 r (unless_length _ _) (omega arith)) (λ _. omega arith)
room size here values (Data width p) = within_room size here (here + count width) (count width) _ (stored_length width _) (omega arith)
room size here values (Align bits) =
    let r = piece values here (Align bits) in
    let up = aligned_up here bits in
    let long = padding_length here (aligned here bits - here) in
    cond_both (ltb 20 bits) (Err Outside) (within size (aligned here bits)) (Room here r) (λ _. omega arith) (λ _. within_room size here (aligned here bits) (aligned here bits - here) r (omega arith) (omega arith))
room size here values (Origin address) =
    cond_both (ltb address here) (Err Backwards) (within size address) (Room here (Ok []))
    (λ _. omega arith)
    (λ e. within_room size here address 0 (Ok []) (omega arith) (omega (arith, ltb-false address here e)))

pub next_inside : (size here : ℕ) (s : Statement) → here ≤ size → next size here s ≤ size
next_inside size here (Label symbol) h = h
next_inside size here (Code i o p) h = grind arith
next_inside size here (Data width p) h = grind arith
next_inside size here (Align bits) h = grind arith
next_inside size here (Origin address) h = grind arith

pub next_up : (size here : ℕ) (s : Statement) → here ≤ next size here s
next_up size here s = omega (arith, room size here [] s)

-- all that follows a statement comes after it, in memory
pub end_up : (size here : ℕ) (statements : List Statement) → here ≤ end size here statements
unfolding end
end_up size here [] = omega arith
end_up size here (s ∷ rest) = omega (arith, next_up size here s, end_up size (next size here s) rest)

pub end_inside : (size here : ℕ) (statements : List Statement) → here ≤ size → end size here statements ≤ size
unfolding end
end_inside size here [] h = h
end_inside size here (s ∷ rest) h = end_inside size (next size here s) rest (next_inside size here s h)

pub end_append : (size here : ℕ) (before after : List Statement) → end size here (before ++ after) ≡ end size (end size here before) after
unfolding end
end_append size here [] after = refl
end_append size here (s ∷ rest) after = end_append size (next size here s) rest after

-- a smaller memory that goes as far as the statements do has them at the same places
within_same : (small size here e : ℕ) → small ≤ size → reached here (within size e) ≤ small → reached here (within small e) ≡ reached here (within size e)
within_same small size here e l h = grind arith

next_same : (small size here : ℕ) (s : Statement) → small ≤ size → next size here s ≤ small → next small here s ≡ next size here s
next_same small size here (Label symbol) l h = refl
next_same small size here (Code i o p) l h = grind arith
next_same small size here (Data width p) l h = within_same small size here (here + count width) l h
next_same small size here (Align bits) l h = grind arith
next_same small size here (Origin address) l h = grind arith

pub end_same : (small size here : ℕ) (before after : List Statement) → small ≤ size → end size here (before ++ after) ≤ small → end small here before ≡ end size here before
unfolding end
end_same small size here [] after l h = refl
end_same small size here (s ∷ before) after l h =
    let up = end_up size (next size here s) (before ++ after) in
    ap (λ (a : ℕ). end small a before) (next_same small size here s l (omega arith)) ∙ end_same small size (next size here s) before after l h

pub enough : (size extent : ℕ) (statements : List Statement) → extent ≡ end size 0 statements → Enough size statements extent
enough size extent statements e small before after far l split = end_same small size 0 before after l (omega (arith, ap (λ (ss : List Statement). end size 0 ss) split))
