-- In every run the chip asks for and writes lines of memory only, few lines wait, and memory is the machines' as soon as every core has stopped.
use Rattle.std.proofs.Common.{◌≡◌, ℕ, zero, suc, ◌+◌, ◌*◌, ◌/◌, ◌<◌, ◌≤◌, Bool, true, List, [], ◌∷◌, ◌++◌, map, length, Some, None, Option, sym, refl, ap, ◌∙◌, subst, arith, length-append}
use Rattle.rv32.specs.Did.{Did, goes, stores, says, stops}
use Rattle.cores.specs.Machines.{manual_after}
use Rattle.cores.specs.Board.{Board, Choice, Out, handed, kept, powered}
use Rattle.cores.specs.Kept.{AlwaysInside, Below, Drained, Inside}
use Rattle.cores.specs.Loop.{each}
use Rattle.cores.specs.Owed.{cycled}
use Rattle.cores.specs.Promise.{Memory}
use Rattle.cores.specs.Rv32.{rv32}
use Rattle.cores.proofs.Basics.{append_nil, choose, with_lines_length}
use Rattle.cores.proofs.Runs.{powered_inv}
use Rattle.soc.specs.Kind.{needed, Within, Kind, Laws}
use Rattle.soc.specs.Rv.{rv}
use Rattle.soc.specs.Soc.{written, State, mine, seen, code_word, data_word, lacks, received, takes, take_interrupt, try, act_while, act, cycle, chip}
use Rattle.soc.specs.Stopped.{all_off}
use Rattle.soc.proofs.Events.{loop_rest}
use Rattle.soc.proofs.Keeps.{Man, Agrees, cycle_keeps}
use Rattle.soc.proofs.Lines.{row}
use Rattle.soc.proofs.Lines as lines
use Rattle.soc.proofs.Owed as owed
use Rattle.soc.proofs.Rv.{rv_laws}

-- the numbers of lines
abbrev numbers : List (ℕ × List ℕ) → List ℕ
numbers ws = map (λ w. w.0) ws

module _ (κ : Kind) (laws : Laws κ) where
  needs_within : (n : ℕ) (c : κ.isa.Cpu) (t : Option ℕ) (read : ℕ → ℕ) → Within n (needed t (κ.touch n c) read)
  needs_within n c None read = tt
  needs_within n c (Some x) read = laws.touch_within n c (read x)

  written_inside : (h : State κ) (d : Did κ.isa.Cpu) → κ.isa.one h.size (mine κ h) (seen κ h) ≡ d → Below h.size (numbers (written h.fetched h.loaded d))
  written_inside h (goes c) e = tt
  written_inside h (says x c) e = tt
  written_inside h stops e = tt
  written_inside h (stores y v c) e =
      let t : data_word κ h ≡ Some y = laws.storing h.size (mine κ h) (seen κ h) y v c e in
      let l : y < 8 * h.size = subst (Within h.size) t (needs_within h.size (mine κ h) (code_word κ h) (seen κ h)) in
      (omega arith, tt)

  try_inside : (h : State κ) (x : Option ℕ) → Below h.size (numbers (try κ x h).1.writes)
  try_inside h None = written_inside h (κ.isa.one h.size (mine κ h) (seen κ h)) refl
  try_inside h (Some a) = tt

  act_inside : (h : State κ) (x : Option ℕ) → Below h.size (numbers (act_while κ x h).1.writes)
  act_inside h (Some a) = tt
  act_inside h None = choose (λ (r : State κ × Out). Below h.size (numbers r.1.writes)) (h.on h.turn) _ _ (λ _. try_inside h (lacks κ h)) (λ _. tt)

  -- an interrupt writes nothing
  loop_writes : (up : ℕ → Bool) (j : ℕ) (h : State κ) → (each (take_interrupt κ up) j h).1.writes ≡ []
  unfolding each
  loop_writes up zero h = refl
  loop_writes up (suc j) h = rw (loop_writes up j h) (choose (λ (r : State κ × Out). r.1.writes ≡ []) (takes κ up j (each (take_interrupt κ up) j h).0) _ _ (λ _. refl) (λ _. refl))

  received_size : (xs : List (ℕ × List ℕ)) (h : State κ) → (received κ xs h).size ≡ h.size
  received_size [] h = refl
  received_size (x ∷ xs) h = refl

  loop_size : (up : ℕ → Bool) (h : State κ) → (each (take_interrupt κ up) 4 h).0.size ≡ h.size
  loop_size up h = ap (λ (s : State κ). s.size) (loop_rest κ up 4 h)

  cycle_inside : (h : State κ) (xs : List (ℕ × List ℕ)) (up : ℕ → Bool) → Below h.size (numbers (cycle κ h xs up).1.writes)
  unfolding cycle
  cycle_inside h xs up =
      let r = (each (take_interrupt κ up) 4 (received κ xs h)).0 in
      rw (loop_writes up 4 (received κ xs h)) (subst (λ n. Below n (numbers (act κ r).1.writes)) (loop_size up (received κ xs h) ∙ received_size xs h) (act_inside r r.asked))

below_row : (n : ℕ) (x : Option ℕ) → lines.Below n x → Below n (row x)
below_row n None b = tt
below_row n (Some a) b = (b, tt)

below_right : (n : ℕ) (xs ys : List ℕ) → Below n (xs ++ ys) → Below n ys
below_right n [] ys b = b
below_right n (x ∷ xs) ys b = below_right n xs ys b.1

row_short : (x : Option ℕ) → length (row x) ≤ 16
row_short None = omega arith
row_short (Some a) = omega arith

module _ (h : State rv) (b : Board) (μ : Man rv) (g : Agrees rv rv_laws h b.memory b.waiting b.said μ) where
  abbrev size : ℕ
  size = length b.memory

  module _ (c : Choice) where
    abbrev out : Out
    out = (cycled (chip rv) h b c).1

    abbrev then_waiting : List ℕ
    then_waiting = kept c.given 0 b.waiting ++ out.asks

    abbrev after : State rv
    after = (cycled (chip rv) h b c).0

    then_row : (then_waiting ≡ row after.asked) × lines.Below size after.asked
    then_row =
        let k = cycle_keeps rv rv_laws h b.memory b.waiting b.said μ c.given c.raised g in
        (k.waits, subst (λ i. lines.Below i after.asked) (sym k.outside ∙ with_lines_length b.memory out.writes) k.below)

    asks_inside : Below size out.asks
    asks_inside = below_right size (kept c.given 0 b.waiting) out.asks (subst (Below size) (sym then_row.0) (below_row size after.asked then_row.1))

    writes_inside : Below size (numbers out.writes)
    writes_inside = subst (λ k. Below k (numbers out.writes)) (sym g.outside) (cycle_inside rv rv_laws h (handed b.memory c.given 0 b.waiting) c.raised)

    few_wait : length (kept c.given 0 b.waiting) + length out.asks ≤ 16
    few_wait =
        let z : length then_waiting ≤ 16 = subst (λ (w : List ℕ). length w ≤ 16) (sym then_row.0) (row_short after.asked) in
        omega (arith, length-append (kept c.given 0 b.waiting) out.asks)

  inside : Inside (chip rv) h b
  inside = record {
    waiting = subst (Below size) (sym g.waits) (below_row size h.asked (subst (λ k. lines.Below k h.asked) (sym g.outside) g.below));
    asks = asks_inside;
    writes = writes_inside;
    room = few_wait;
  }

agrees : (n : ℕ) (m : List (List ℕ)) (cs : List Choice) → 1 ≤ n → n ≤ 4 → Memory m →
    let r = powered (chip rv) n m cs in Agrees rv rv_laws r.0 r.1.memory r.1.waiting r.1.said (manual_after rv32 n m r.1.did)
agrees n m cs p q r = powered_inv rv32 (chip rv) (owed.Inv rv rv_laws) (owed.kept rv rv_laws) n m cs p q r

pub always_inside : AlwaysInside (chip rv)
always_inside n m cs p q r = inside (powered (chip rv) n m cs).0 (powered (chip rv) n m cs).1 (manual_after rv32 n m (powered (chip rv) n m cs).1.did) (agrees n m cs p q r)

-- each word that is stored goes to memory at once
pub drained : Drained (chip rv) all_off 0
drained n m cs [] p q r o l = record {
  said = ap (λ (xs : List Choice). (powered (chip rv) n m xs).1.said) (append_nil cs);
  did = ap (λ (xs : List Choice). (powered (chip rv) n m xs).1.did) (append_nil cs);
  memory = ap (λ (xs : List Choice). (powered (chip rv) n m xs).1.memory) (append_nil cs) ∙ (agrees n m cs p q r).memory;
}
drained n m cs (d ∷ ds) p q r o l = absurd (omega arith)
