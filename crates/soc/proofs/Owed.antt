-- The chip pays what a chip owes, for every kind of core that keeps the laws; and so it keeps all eight promises.
use Rattle.std.proofs.Common.{◌≡◌, ℕ, ◌<◌, ◌≤◌, Bool, true, false, eqb, ◌⊎◌, List, [], ◌∷◌, ◌++◌, length, Some, None, Option, sym, refl, ap, ◌∙◌, arith}
use Rattle.cores.specs.Machines.{said_by, steps, interrupts, core}
use Rattle.cores.specs.Board.{Board, handed, board_after, due, later, asked, Steady, steady_cycle}
use Rattle.cores.specs.Promise.{once, Promises}
use Rattle.cores.specs.Rv32.{rv32}
use Rattle.cores.specs.Owed.{board_of, steady_did, Kept, Faithful, Bounded, Drains, ByTurns, Owed}
use Rattle.cores.specs.Owed as owed
use Rattle.cores.proofs.Basics.{choose}
use Rattle.cores.proofs.Runs.{never_dirty}
use Rattle.cores.proofs.Promises.{promises}
use Rattle.soc.specs.Kind.{Kind, Laws}
use Rattle.soc.specs.Rv.{rv}
use Rattle.soc.specs.Soc.{following, State, received, act, cycle, chip}
use Rattle.soc.proofs.Lines.{row, Below}
use Rattle.soc.proofs.Keeps.{Man, Cor, Agrees, starts, cycle_keeps}
use Rattle.soc.proofs.Events.{given, looped, loop_asks, cycle_steps, cycle_single, cycle_lowered, cycle_takes, cycle_allowed}
use Rattle.soc.proofs.Turns.{rank, short, moves}
use Rattle.soc.proofs.Rv.{rv_laws}

-- whose turn is next, as it is owed
following_same : (n t : ℕ) → t < n → following n t ≡ owed.following n t
following_same n t l = grind arith

-- one line at most waits
row_few : (x : Option ℕ) → length (row x) ≤ 16
row_few None = omega arith
row_few (Some a) = omega arith

row_once : (x : Option ℕ) (a : ℕ) → once a (row x) ≤ 1
unfolding once
row_once None a = omega arith
row_once (Some b) a = choose (λ i. i ≤ 1) (eqb a b) _ _ (λ _. omega arith) (λ _. omega arith)

row_inside : (n : ℕ) (x : Option ℕ) (a : ℕ) → Below n x → n ≤ a → once a (row x) ≡ 0
unfolding once
row_inside n None a b l = refl
row_inside n (Some c) a b l = rw (apart a c (omega arith))
  where
    apart : (a c : ℕ) → c < a → eqb a c ≡ false
    apart a c l = grind arith

module _ (κ : Kind) (laws : Laws κ) where
  abbrev pub Inv : State κ → Board → Man κ → Type 0
  Inv h b μ = Agrees κ laws h b.memory b.waiting b.said μ

  pub kept : Kept κ.isa (chip κ) Inv
  unfolding board_after
  kept = record {
    starts = starts κ laws;
    keeps = λ h b μ c g. cycle_keeps κ laws h b.memory b.waiting b.said μ c.given c.raised g;
  }

  -- a line that comes changes no core
  given_cpu : (xs : List (ℕ × List ℕ)) (h : State κ) → (received κ xs h).cpu ≡ h.cpu
  given_cpu [] h = refl
  given_cpu (x ∷ xs) h = refl

  given_on : (xs : List (ℕ × List ℕ)) (h : State κ) → (received κ xs h).on ≡ h.on
  given_on [] h = refl
  given_on (x ∷ xs) h = refl

  takes_one : (h : State κ) (xs : List (ℕ × List ℕ)) (up : ℕ → Bool) (k : ℕ) → k < 4 → up k ≡ true → κ.isa.lets (h.cpu k) ≡ true → h.on k ≡ true →
      1 ≤ interrupts k (cycle κ h xs up).1.did
  takes_one h xs up k l u r o = rw (cycle_takes κ h xs up k l, given_cpu xs h, given_on xs h, u, r, o) (omega arith)

  faithful : Faithful κ.isa (chip κ) Inv
  faithful = record {
    same = λ h b μ k g. ap (said_by k) g.said;
    single = λ h b μ c k g. cycle_single κ h (handed b.memory c.given 0 b.waiting) c.raised k;
    allowed = λ h b μ c g. cycle_allowed κ laws c.raised h b.memory b.waiting b.said μ c.given g;
    lowered = λ h b μ c k g d. cycle_lowered κ h (handed b.memory c.given 0 b.waiting) c.raised k d;
    takes = λ h b μ c k g l u r o.
        let n : k < h.count = rw g.many at l in
        let f : k < 4 = omega (arith, g.small) in
        takes_one h (handed b.memory c.given 0 b.waiting) c.raised k f u (sym (ap (λ (x : Cor κ). κ.isa.lets x.cpu) (g.cores k n)) ∙ r)
        (sym (ap (λ (x : Cor κ). x.on) (g.cores k n)) ∙ o);
  }

  bounded : Bounded κ.isa (chip κ) Inv
  bounded = record {
    few = λ h b μ g. rw g.waits (row_few h.asked);
    apart = λ h b μ a g. rw g.waits (row_once h.asked a);
    inside = λ h b μ a g l. rw g.waits (row_inside h.size h.asked a g.below (rw g.outside at l));
    proper = λ h b μ g. g.proper;
  }

  -- memory outside is always the manual's
  drains : Drains κ.isa (chip κ) Inv
  drains = never_dirty κ.isa (chip κ) Inv (λ h b μ g. g.memory)

  -- a cycle on a steady board
  module _ (s : Steady (chip κ)) (up : ℕ → Bool) (late : ℕ → ℕ) where
    abbrev lines_due : List (ℕ × List ℕ)
    lines_due = due s.memory s.waiting

    abbrev here : State κ
    here = looped κ s.chip lines_due up

    abbrev then_chip : State κ
    then_chip = (steady_cycle (chip κ) up late s).chip

    abbrev then_waiting : List (ℕ × ℕ)
    then_waiting = (steady_cycle (chip κ) up late s).waiting

    next_chip : then_chip ≡ (act κ here).0
    unfolding steady_cycle cycle
    next_chip = refl

    next_waiting : then_waiting ≡ later s.waiting ++ asked late (act κ here).1.asks
    unfolding steady_cycle cycle
    next_waiting = rw (loop_asks κ up 4 (given κ s.chip lines_due up))

    turn_moves : (l : ℕ) (μ : Man κ) → Inv s.chip (board_of (chip κ) s) μ → ((a : ℕ) → late a ≤ l) →
        ((then_chip.turn ≡ owed.following (length μ.cores) s.chip.turn)
        × (((core κ.isa μ s.chip.turn).on ≡ false) ⊎ (1 ≤ steps s.chip.turn (steady_did (chip κ) up s))))
        ⊎ ((then_chip.turn ≡ s.chip.turn) × (rank κ l then_chip then_waiting < rank κ l s.chip s.waiting))
    turn_moves l μ g soon =
        rw (next_chip, next_waiting, g.many, ← (following_same s.chip.count s.chip.turn g.turns), cycle_steps κ s.chip lines_due up s.chip.turn, g.cores s.chip.turn g.turns)
        (moves κ laws l up late soon s.chip (omega (arith, g.turns, g.small)) s.memory s.waiting g.waits)

  turns : ByTurns κ.isa (chip κ) Inv
  turns = record {
    turn = λ h. h.turn;
    rank = λ l s. rank κ l s.chip s.waiting;
    there = λ l s μ r. rw r.holds.many r.holds.turns;
    short = λ l s μ r. short κ l s.chip s.waiting r.timely;
    moves = λ l s μ up late r soon. turn_moves s up late l μ r.holds soon;
  }

  pub owes : Owed κ.isa (chip κ)
  owes = record { Inv = Inv; kept = kept; faithful = faithful; bounded = bounded; drains = drains; turns = turns }

-- all eight, for RV32I cores
pub soc_promises : Promises rv32 (chip rv)
soc_promises = promises rv32 (chip rv) (owes rv rv_laws)
