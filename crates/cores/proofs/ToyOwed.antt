-- The toy chip pays what a chip owes, and so it keeps all eight promises.
use Rattle.std.proofs.Common.{◌≡◌, ℕ, ◌-◌, ◌<◌, ◌≤◌, Bool, true, false, eqb, List, length, sym, refl, ap, ◌∙◌, subst, arith}
use mathlib.Core.Bool.{false≢true}
use Rattle.cores.specs.Machines.{said_by, Core, Manual, core}
use Rattle.cores.specs.Board.{Board, handed, board_after}
use Rattle.cores.specs.Promise.{once, Promises}
use Rattle.cores.specs.Owed.{board_of, Kept, Faithful, Bounded, Drains, ByTurns, Owed}
use Rattle.cores.specs.Toy.{toy_isa, Phase, idle, waits, holds, dirty, State, core_of, mine, line, received, gives, may, acts_at, acts, toy_cycle, toy_chip}
use Rattle.cores.proofs.Basics.{choose}
use Rattle.cores.proofs.Promises.{promises}
use Rattle.cores.proofs.ToyKeeps.{flushed, row, Fits, Agrees, chip_at, starts, cycle_keeps}
use Rattle.cores.proofs.ToyEvents.{looped, cycle_single, cycle_lowered, cycle_takes, cycle_allowed}
use Rattle.cores.proofs.ToyTurns.{rank, short, loop_rest, loop_on, moves}

abbrev Inv : State → Board → Manual toy_isa → Type 0
Inv h b μ = Agrees h b.memory b.waiting b.said μ

kept_toy : Kept toy_isa toy_chip Inv
unfolding board_after
kept_toy = record {
  starts = starts;
  keeps = λ h b μ c g. cycle_keeps h b.memory b.waiting b.said μ c.given c.raised g;
}

-- core k of the machines is that of the chip
core_same : (h : State) (b : Board) (μ : Manual toy_isa) (k : ℕ) → Inv h b μ → core toy_isa μ k ≡ core_of h.cores k
unfolding core
core_same h b μ k g = ap (λ (ν : Manual toy_isa). core toy_isa ν k) g.machines

many_same : (h : State) (b : Board) (μ : Manual toy_isa) → Inv h b μ → length μ.cores ≡ length h.cores
many_same h b μ g = ap (λ (ν : Manual toy_isa). length ν.cores) g.machines

may_take : (up : ℕ → Bool) (k : ℕ) (h : State) → up k ≡ true → (core_of h.cores k).cpu.ready ≡ true → (core_of h.cores k).on ≡ true → may up k h ≡ true
may_take up k h u r o = rw (u, r, o)

faithful_toy : Faithful toy_isa toy_chip Inv
faithful_toy = record {
  same = λ h b μ k g. ap (λ (ν : Manual toy_isa). said_by k ν.said) (sym g.machines);
  single = λ h b μ c k g. cycle_single c.raised h (handed b.memory c.given 0 b.waiting) k;
  allowed = λ h b μ c g. cycle_allowed c.raised h b.memory b.waiting b.said μ c.given g;
  lowered = λ h b μ c k g d. cycle_lowered c.raised h (handed b.memory c.given 0 b.waiting) k d;
  takes = λ h b μ c k g l u r o.
      let f : k < 4 = let z : k < length h.cores = rw (many_same h b μ g) at l in omega (arith, g.four) in
      let e = core_same h b μ k g in
      let t = may_take c.raised k h u (sym (ap (λ (x : Core toy_isa). x.cpu.ready) e) ∙ r) (sym (ap (λ (x : Core toy_isa). x.on) e) ∙ o) in
      rw (cycle_takes c.raised h (handed b.memory c.given 0 b.waiting) k f t) (omega arith);
}

row_few : (p : Phase) (x : Core toy_isa) → length (row p x) ≤ 16
row_few idle x = omega arith
row_few waits x = omega arith
row_few (holds v) x = omega arith
row_few (dirty a v) x = omega arith

row_once : (p : Phase) (x : Core toy_isa) (a : ℕ) → once a (row p x) ≤ 1
unfolding once
row_once idle x a = omega arith
row_once waits x a = choose (λ i. i ≤ 1) (eqb a (line x)) _ _ (λ _. omega arith) (λ _. omega arith)
row_once (holds v) x a = omega arith
row_once (dirty b v) x a = omega arith

row_inside : (p : Phase) (x : Core toy_isa) (n a : ℕ) (m : List (List ℕ)) → Fits p x n m → n ≤ a → once a (row p x) ≡ 0
unfolding once
row_inside idle x n a m f l = refl
row_inside waits x n a m f l = rw (apart a (line x) (omega (arith, f.1)))
  where
    apart : (a b : ℕ) → b < a → eqb a b ≡ false
    apart a b l = grind arith
row_inside (holds v) x n a m f l = refl
row_inside (dirty b v) x n a m f l = refl

bounded_toy : Bounded toy_isa toy_chip Inv
bounded_toy = record {
  few = λ h b μ g. rw g.waiting (row_few h.phase (mine h));
  apart = λ h b μ a g. rw g.waiting (row_once h.phase (mine h) a);
  inside = λ h b μ a g l. rw g.waiting (row_inside h.phase (mine h) h.size a b.memory g.fits (rw g.size at l));
  proper = λ h b μ g. g.proper;
}

-- what is left to write: the line that is dirty
abbrev left_at : Phase → ℕ
left_at idle = 0
left_at waits = 0
left_at (holds v) = 0
left_at (dirty a v) = 1

left_little : (p : Phase) → left_at p ≤ 8192
left_little idle = omega arith
left_little waits = omega arith
left_little (holds v) = omega arith
left_little (dirty a v) = omega arith

left_clean : (p : Phase) (m : List (List ℕ)) → left_at p ≡ 0 → flushed p m ≡ m
left_clean idle m e = refl
left_clean waits m e = refl
left_clean (holds v) m e = refl
left_clean (dirty a v) m e = absurd (omega arith)

-- with its core off the chip is idle or dirty, and after a cycle it is idle
acts_drains : (p : Phase) (xs : List (ℕ × List ℕ)) (cs : List (Core toy_isa)) (n t : ℕ) (x : Core toy_isa) (m : List (List ℕ)) → Fits p x n m → x.on ≡ false → (core_of cs t).on ≡ false →
    left_at (acts_at (received p xs) (chip_at cs n t (received p xs))).0.phase ≤ left_at p - 1
acts_drains idle xs cs n t x m f o e = rw e (omega arith)
acts_drains waits xs cs n t x m f o e = absurd (false≢true (sym o ∙ f.0))
acts_drains (holds v) xs cs n t x m f o e = absurd (false≢true (sym o ∙ f.0))
acts_drains (dirty a v) xs cs n t x m f o e = omega arith

cycle_drains : (h : State) (xs : List (ℕ × List ℕ)) (up : ℕ → Bool) (m : List (List ℕ)) → Fits h.phase (mine h) h.size m → (mine h).on ≡ false → left_at (toy_cycle h xs up).0.phase ≤ left_at h.phase - 1
cycle_drains h xs up m f o = subst (λ (g : State). left_at (acts g).0.phase ≤ left_at h.phase - 1) (sym (loop_rest up 4 (gives xs h).0))
    (acts_drains h.phase xs (looped up h xs).cores h.size h.turn (mine h) m f o (loop_on up h.turn 4 (gives xs h).0 ∙ o))

drains_toy : Drains toy_isa toy_chip Inv
drains_toy = record {
  left = λ h. left_at h.phase;
  little = λ h b μ g. left_little h.phase;
  falls = λ h b μ c g o.
      cycle_drains h (handed b.memory c.given 0 b.waiting) c.raised b.memory g.fits (sym (ap (λ (x : Core toy_isa). x.on) (core_same h b μ h.turn g)) ∙ o h.turn);
  clean = λ h b μ g o e. sym (ap (λ (ν : Manual toy_isa). ν.memory) g.machines ∙ left_clean h.phase b.memory e);
}

turns_toy : ByTurns toy_isa toy_chip Inv
turns_toy = record {
  turn = λ h. h.turn;
  rank = rank;
  there = λ l s μ r. rw (many_same s.chip (board_of toy_chip s) μ r.holds) r.holds.turns;
  short = λ l s μ r. short l s r.timely;
  moves = λ l s μ up late r soon. rw (many_same s.chip (board_of toy_chip s) μ r.holds, core_same s.chip (board_of toy_chip s) μ s.chip.turn r.holds) (moves up l late soon s r.holds.waiting);
}

pub toy_owed : Owed toy_isa toy_chip
toy_owed = record {
  Inv = Inv;
  kept = kept_toy;
  faithful = faithful_toy;
  bounded = bounded_toy;
  drains = drains_toy;
  turns = turns_toy;
}

pub toy_promises : Promises toy_isa toy_chip
toy_promises = promises toy_isa toy_chip toy_owed
