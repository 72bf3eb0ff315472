-- The row of lines that are waited for: each is given, or has a cycle less to go.
use Rattle.std.proofs.Common.{◌≡◌, ℕ, suc, ◌-◌, ◌≤◌, Bool, true, false, ◌||◌, eqb, List, [], ◌∷◌, ◌++◌, get_or, refl, arith}
use Rattle.rv32.specs.declared.core_state.Need.{Need}
use Rattle.rv32.specs.declared.core_state.Need.TheVariants.{Nothing, Read, Write}
use Rattle.cores.specs.Board.{later, due, asked}
use Rattle.cores.specs.Machines.{pick}
use Rattle.cores.specs.Owed.{Timely}
use Rattle.cores.proofs.Basics.{choose}
use Rattle.cached.specs.Rank.{far, given, left, waits}
use Rattle.cache.specs.Slots.{lacks, Lack, ready}
use Rattle.cached.proofs.Base.{clash}

later_step : (a : ℕ) (x : ℕ × ℕ) (gd wa wb : Bool) (la lb : ℕ) → (gd ≡ false → wa ≡ true → (wb ≡ true) × (suc lb ≡ la)) → pick (eqb x.1 0) (eqb x.0 a || gd) gd ≡ false → (eqb x.0 a || wa) ≡ true →
    (pick (eqb x.1 0) wb (eqb x.0 a || wb) ≡ true) × (suc (pick (eqb x.1 0) lb (pick (eqb x.0 a) (x.1 - 1) lb)) ≡ pick (eqb x.0 a) x.1 la)
later_step a x gd wa wb la lb ih n w = (grind arith, grind arith)

pub later_left : (m : List (List ℕ)) (a : ℕ) (ws v : List (ℕ × ℕ)) → given a (due m ws) ≡ false → waits a ws ≡ true →
    (waits a (later ws ++ v) ≡ true) × (suc (left a (later ws ++ v)) ≡ left a ws)
unfolding given due waits left later
later_left m a [] v n w = clash w refl
later_left m a (x ∷ ws) v n w = go (later_step a x (given a (due m ws)) (waits a ws) (waits a (later ws ++ v)) (left a ws) (left a (later ws ++ v)) (later_left m a ws v) (shape n) w)
  where
    shape : given a (pick (eqb x.1 0) ((x.0, get_or m x.0 []) ∷ due m ws) (due m ws)) ≡ false →
        pick (eqb x.1 0) (eqb x.0 a || given a (due m ws)) (given a (due m ws)) ≡ false
    shape n = grind arith

    go : (pick (eqb x.1 0) (waits a (later ws ++ v)) (eqb x.0 a || waits a (later ws ++ v)) ≡ true)
        × (suc (pick (eqb x.1 0) (left a (later ws ++ v)) (pick (eqb x.0 a) (x.1 - 1) (left a (later ws ++ v)))) ≡ pick (eqb x.0 a) x.1 (left a ws)) →
        (waits a (pick (eqb x.1 0) (later ws) ((x.0, x.1 - 1) ∷ later ws) ++ v) ≡ true)
        × (suc (left a (pick (eqb x.1 0) (later ws) ((x.0, x.1 - 1) ∷ later ws) ++ v)) ≡ pick (eqb x.0 a) x.1 (left a ws))
    go z = split (eqb x.1 0) z
      where
        split : (b : Bool) → (pick b (waits a (later ws ++ v)) (eqb x.0 a || waits a (later ws ++ v)) ≡ true)
            × (suc (pick b (left a (later ws ++ v)) (pick (eqb x.0 a) (x.1 - 1) (left a (later ws ++ v)))) ≡ pick (eqb x.0 a) x.1 (left a ws)) →
            (waits a (pick b (later ws) ((x.0, x.1 - 1) ∷ later ws) ++ v) ≡ true)
            × (suc (left a (pick b (later ws) ((x.0, x.1 - 1) ∷ later ws) ++ v)) ≡ pick (eqb x.0 a) x.1 (left a ws))
        split true z = z
        split false z = z

pub late_next : (l : ℕ) (ws v : List (ℕ × ℕ)) → Timely l ws → Timely l v → Timely l (later ws ++ v)
unfolding later
late_next l [] v h i = i
late_next l (x ∷ ws) v h i = choose (λ (z : List (ℕ × ℕ)). Timely l (z ++ v)) (eqb x.1 0) _ _ (λ e. late_next l ws v h.1 i) (λ e. (less_late x.1 h.0, late_next l ws v h.1 i))
  where
    less_late : (n : ℕ) → n ≤ l → n - 1 ≤ l
    less_late n h = omega arith

pub late_asked : (l : ℕ) (late : ℕ → ℕ) (ls : List ℕ) → ((a : ℕ) → late a ≤ l) → Timely l (asked late ls)
unfolding asked
late_asked l late [] h = tt
late_asked l late (a ∷ ls) h = (h a, late_asked l late ls h)

pub left_late : (l a : ℕ) (ws : List (ℕ × ℕ)) → Timely l ws → left a ws ≤ l
unfolding left
left_late l a [] h = omega arith
left_late l a (x ∷ ws) h = choose (λ (z : ℕ). z ≤ l) (eqb x.0 a) _ _ (λ e. h.0) (λ e. left_late l a ws h.1)

-- what is on its way to write is as good as what was asked for
pub raise_far : (s : Lack) (l d : Need) (a : ℕ) (o : Bool) → far s (lacks a true) l d ≤ far s (lacks a o) l d
raise_far s l d a true = omega arith
raise_far ready l Nothing a false = omega arith
raise_far ready l (Read y) a false = grind arith
raise_far ready l (Write y) a false = grind arith
raise_far (lacks c u) l d a false = grind arith
