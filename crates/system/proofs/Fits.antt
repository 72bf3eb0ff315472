-- In a run the board refuses nothing in the next cycle: the lines that wait, and those that the chip asks for and writes, are memory's, and few wait.
use Rattle.std.proofs.Common.{◌≡◌, ℕ, ◌+◌, ◌*◌, ◌<◌, ◌≤◌, Bool, true, false, cond, ◌&&◌, ltb, List, [], ◌∷◌, map, length, Some, None, Option, sym, refl, ap, ◌∙◌, subst, arith}
use Rattle.words.proofs.Lines.{line_count}
use Rattle.cores.specs.Board.{Choice, Out, handed, kept, powered}
use Rattle.cores.specs.Kept.{AlwaysInside, Below, Inside}
use Rattle.cores.specs.Lent.{Lent}
use Rattle.cores.specs.Owed.{cycled}
use Rattle.cores.specs.Ports.{line_of, somes}
use Rattle.cores.specs.Promise.{Memory}
use Rattle.cores.specs.declared.port.Line.{Line}
use Rattle.cores.specs.declared.port.Out as port
use Rattle.board.specs.Faults.{unfit, unsound, full}
use Rattle.board.specs.Layout.{board_of, memory_of, waiting_of}
use Rattle.board.specs.Rows.{inside, asks_of, writes_of}
use Rattle.board.specs.declared.fault.Fault.TheVariants.{Short}
use Rattle.system.specs.Cycle.{Fitting, PutsOut}

-- the numbers of lines
abbrev numbers : List (ℕ × List ℕ) → List ℕ
numbers ws = map (λ w. w.0) ws

below_inside : (n : ℕ) (xs : List ℕ) → Below n xs → inside n xs ≡ true
below_inside n [] b = refl
below_inside n (x ∷ xs) b = go x n (inside n xs) b.0 (below_inside n xs b.1)
  where
    go : (x n : ℕ) (r : Bool) → x < n → r ≡ true → (ltb x n && r) ≡ true
    go x n r l e = grind arith

-- the numbers of the lines written, both ways
numbers_same : (ws : List (Option Line)) → somes (λ (l : Line). l.number) ws ≡ numbers (somes line_of ws)
numbers_same [] = refl
numbers_same (None ∷ ws) = numbers_same ws
numbers_same (Some l ∷ ws) = ap (λ (r : List ℕ). l.number ∷ r) (numbers_same ws)

long_enough : (len n : ℕ) → 8 * n + 1024 ≤ len → cond (ltb len (8 * n + 1024)) (Some Short) None ≡ None
long_enough len n l = let z : ltb len (8 * n + 1024) ≡ false = grind arith in rw z

not_full : (k : ℕ) → k ≤ 16 → full k ≡ None
not_full k l = let z : ltb 16 k ≡ false = grind arith in rw z

unsound_none : (n : ℕ) (board : List ℕ) → 8 * n + 1024 ≤ length board → inside n (waiting_of n board) ≡ true → unsound n board ≡ None
unsound_none n board l e = rw (long_enough (length board) n l, e)

unfit_none : (n : ℕ) (board : List ℕ) (o : port.Out) (left : ℕ) → unsound n board ≡ None → inside n (asks_of o) ≡ true →
    inside n (somes (λ (l : Line). l.number) o.writes) ≡ true → left + length (asks_of o) ≤ 16 → unfit n board o left ≡ None
unfit_none n board o left u a w l = rw (u, a, w, not_full (left + length (asks_of o)) l)

-- the lent words are those of a chip of n cores with memory m, and of its board, after these choices
pub record Stands (L : Lent) (n lines : ℕ) (m : List (List ℕ)) (cs : List Choice) (chips board : List ℕ) : Type 0 where
  pub state : L.state_of chips ≡ (powered L.chip n m cs).0
  pub memory : memory_of lines board ≡ (powered L.chip n m cs).1.memory
  pub waiting : waiting_of lines board ≡ (powered L.chip n m cs).1.waiting

module _ (L : Lent) (kept-inside : AlwaysInside L.chip) (n lines : ℕ) (m : List (List ℕ)) (cs : List Choice) (chips board : List ℕ) (s : Stands L n lines m cs chips board)
    (p : 1 ≤ n) (q : n ≤ 4) (r : Memory m) (l : 8 * lines + 1024 ≤ length board) (c : Choice) where
  -- memory has so many lines
  size : length (powered L.chip n m cs).1.memory ≡ lines
  size = sym (ap length s.memory) ∙ line_count lines board

  within : Inside L.chip (powered L.chip n m cs).0 (powered L.chip n m cs).1
  within = kept-inside n m cs p q r

  -- rows below the number of lines
  lies : (xs ys : List ℕ) → xs ≡ ys → Below (length (powered L.chip n m cs).1.memory) ys → inside lines xs ≡ true
  lies xs ys e b = ap (inside lines) e ∙ below_inside lines ys (subst (λ (k : ℕ). Below k ys) size b)

  row_sound : unsound lines board ≡ None
  row_sound = unsound_none lines board l (lies (waiting_of lines board) (powered L.chip n m cs).1.waiting s.waiting within.waiting)

  abbrev put_out : Out
  put_out = (cycled L.chip (powered L.chip n m cs).0 (powered L.chip n m cs).1 c).1

  out_same : (cycled L.chip (L.state_of chips) (board_of lines board [] []) c).1 ≡ put_out
  out_same = λ i. (L.chip.cycle (s.state i) (handed (s.memory i) c.given 0 (s.waiting i)) c.raised).1

  puts_fit : (o : port.Out) (words : List ℕ) → PutsOut L lines chips board c o words → unfit lines board o (length (kept c.given 0 (waiting_of lines board))) ≡ None
  puts_fit o words e =
      let a : asks_of o ≡ put_out.asks = ap (λ (r : Out). r.asks) (e ∙ out_same) in
      let w : writes_of o ≡ put_out.writes = ap (λ (r : Out). r.writes) (e ∙ out_same) in
      let k : kept c.given 0 (waiting_of lines board) ≡ kept c.given 0 (powered L.chip n m cs).1.waiting = ap (kept c.given 0) s.waiting in
      unfit_none lines board o (length (kept c.given 0 (waiting_of lines board))) row_sound
      (lies (asks_of o) put_out.asks a (within.asks c))
      (lies (somes (λ (l : Line). l.number) o.writes) (numbers put_out.writes) (numbers_same o.writes ∙ ap numbers w) (within.writes c))
      (let z = within.room c in omega (arith, ap length a, ap length k))

  -- neither the lines given nor what the chip puts out is refused
  pub fitting : Fitting L lines chips board c
  fitting = record { sound = row_sound; fits = puts_fit }
