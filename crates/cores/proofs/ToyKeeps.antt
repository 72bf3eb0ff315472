-- The toy chip agrees with the manual's machines: at power-on, and after each step of a cycle.
use Rattle.std.proofs.Common.{◌≡◌, ℕ, ◌/◌, ◌%◌, ◌<◌, ◌≤◌, Bool, true, false, ◌&&◌, eqb, ltb, List, [], ◌∷◌, ◌++◌, length, get_or, set, sym, refl, ap, ◌∙◌, subst, arith, length-set, get_or-set_other, get_or-set_same}
use mathlib.Core.Bool.{false≢true}
use lib.ListN.{get_or-eq_default}
use Rattle.rv32.specs.Did.{Did, goes, stores, says, stops}
use Rattle.cores.specs.Machines.{pick, step, interrupt, Core, Manual, core, after, events, begins, word, with_word}
use Rattle.cores.specs.Board.{with_lines, among, handed, kept}
use Rattle.cores.specs.Promise.{Memory}
use Rattle.cores.specs.Loop.{each}
use Rattle.cores.specs.Owed.{following}
use Rattle.cores.specs.Toy.{Registers, does, toy_isa, Phase, idle, waits, holds, dirty, State, core_of, mine, line, received, gives, may, entered, attends, passes, finishes, acts_at, acts, toy_cycle, toy_chip}
use Rattle.cores.proofs.Basics.{by_test, choose, same, differ, less, not_less, append_nil}
use Rattle.cores.proofs.Memory.{Line, memory_line, line_set, memory_set}
use Rattle.cores.proofs.Machines.{fresh_many, did_step, did_interrupt}
use Rattle.cores.proofs.Loop.{After, Keeps, stay_keeps, then_keeps, each_keeps}

-- memory as the manual has it: with the line that is still to be written
abbrev pub flushed : Phase → List (List ℕ) → List (List ℕ)
flushed idle m = m
flushed waits m = m
flushed (holds ws) m = m
flushed (dirty a ws) m = set m a ws

-- the lines that wait
abbrev pub row : Phase → Core toy_isa → List ℕ
row idle x = []
row waits x = line x ∷ []
row (holds ws) x = []
row (dirty a ws) x = []

-- what a chip is at fits its core x, a memory m of n lines
abbrev pub Fits : Phase → Core toy_isa → ℕ → List (List ℕ) → Type 0
Fits idle x n m = Unit {0}
Fits waits x n m = (x.on ≡ true) × (line x < n)
Fits (holds ws) x n m = (x.on ≡ true) × (line x < n) × (ws ≡ get_or m (line x) [])
Fits (dirty a ws) x n m = Line ws

-- the manual's machines, read off the chip and the board
abbrev pub manual_of : State → List (List ℕ) → List (ℕ × ℕ) → Manual toy_isa
manual_of h m s = record { cores = h.cores; memory = flushed h.phase m; said = s }

pub record Agrees (h : State) (m : List (List ℕ)) (w : List ℕ) (s : List (ℕ × ℕ)) (μ : Manual toy_isa) : Type 0 where
  pub machines : μ ≡ manual_of h m s
  pub size : length m ≡ h.size
  pub four : length h.cores ≤ 4
  pub turns : h.turn < length h.cores
  pub proper : Memory m
  pub fits : Fits h.phase (mine h) h.size m
  pub waiting : w ≡ row h.phase (mine h)

-- a chip by its parts
abbrev pub chip_at : List (Core toy_isa) → ℕ → ℕ → Phase → State
chip_at cs n t p = record { cores = cs; size = n; turn = t; phase = p }

pub starts : (n : ℕ) (m : List (List ℕ)) → 1 ≤ n → n ≤ 4 → Memory m → Agrees (toy_chip.fresh n (length m)) m [] [] (begins toy_isa n m)
unfolding begins
starts n m p q r = record {
  machines = refl;
  size = refl;
  four = rw (fresh_many toy_isa 0 n) q;
  turns = rw (fresh_many toy_isa 0 n) p;
  proper = r;
  fits = tt;
  waiting = refl;
}

-- lines that come
module _ (cs : List (Core toy_isa)) (n t : ℕ) (m : List (List ℕ)) (s : List (ℕ × ℕ)) (μ : Manual toy_isa) where
  come : (p : Phase) (gs : List ℕ) → Agrees (chip_at cs n t p) m (row p (core_of cs t)) s μ →
      Agrees (chip_at cs n t (received p (handed m gs 0 (row p (core_of cs t))))) m (kept gs 0 (row p (core_of cs t))) s μ
  unfolding handed kept
  come idle gs g = g
  come waits gs g = go (among 0 gs)
    where
      go : (b : Bool) → Agrees (chip_at cs n t (received waits (pick b ((line (core_of cs t), get_or m (line (core_of cs t)) []) ∷ []) []))) m (pick b [] (line (core_of cs t) ∷ [])) s μ
      go true = record {
        machines = g.machines;
        size = g.size;
        four = g.four;
        turns = g.turns;
        proper = g.proper;
        fits = (g.fits.0, g.fits.1, refl);
        waiting = refl;
      }
      go false = g
  come (holds ws) gs g = g
  come (dirty a ws) gs g = g

pub gives_agrees : (h : State) (m : List (List ℕ)) (w : List ℕ) (s : List (ℕ × ℕ)) (μ : Manual toy_isa) (gs : List ℕ) → Agrees h m w s μ →
    Agrees (gives (handed m gs 0 w) h).0 m (kept gs 0 w) s μ
gives_agrees h m w s μ gs g = subst (λ (v : List ℕ). Agrees (gives (handed m gs 0 v) h).0 m (kept gs 0 v) s μ) (sym g.waiting)
    (come h.cores h.size h.turn m s μ h.phase gs (subst (λ (v : List ℕ). Agrees h m v s μ) g.waiting g))

-- interrupts
pub in_range : (cs : List (Core toy_isa)) (k : ℕ) → (core_of cs k).on ≡ true → k < length cs
in_range cs k o = by_test (ltb k (length cs)) (λ t. less k (length cs) t)
    (λ t. absurd (false≢true (sym (ap (λ (c : Core toy_isa). c.on) (get_or-eq_default cs (record { cpu = toy_isa.start 0; on = false }) (not_less k (length cs) t))) ∙ o)))

-- after an interrupt of core k, core j is at the same word and still goes
pub entered_core : (cs : List (Core toy_isa)) (k j : ℕ) → (core_of cs k).on ≡ true →
    ((core_of (set cs k (entered (core_of cs k))) j).on ≡ (core_of cs j).on) × ((core_of (set cs k (entered (core_of cs k))) j).cpu.pc ≡ (core_of cs j).cpu.pc)
entered_core cs k j o = by_test (eqb j k)
    (λ e. rw (same j k e, get_or-set_same cs k (entered (core_of cs k)) (record { cpu = toy_isa.start 0; on = false }) (in_range cs k o)) (sym o, refl))
    (λ e. rw (get_or-set_other cs k j (entered (core_of cs k)) (record { cpu = toy_isa.start 0; on = false }) (differ j k e)) (refl, refl))

fits_same : (p : Phase) (x y : Core toy_isa) (n : ℕ) (m : List (List ℕ)) → y.on ≡ x.on → y.cpu.pc ≡ x.cpu.pc → Fits p x n m → Fits p y n m
fits_same idle x y n m e f g = tt
fits_same waits x y n m e f g = (e ∙ g.0, rw f g.1)
fits_same (holds ws) x y n m e f g = (e ∙ g.0, rw f g.1, rw f g.2)
fits_same (dirty a ws) x y n m e f g = g

row_same : (p : Phase) (x y : Core toy_isa) → y.cpu.pc ≡ x.cpu.pc → row p x ≡ row p y
row_same idle x y f = refl
row_same waits x y f = rw f
row_same (holds ws) x y f = refl
row_same (dirty a ws) x y f = refl

pub may_on : (up : ℕ → Bool) (k : ℕ) (h : State) → may up k h ≡ true → ((core_of h.cores k).on ≡ true) × (up k ≡ true) × ((core_of h.cores k).cpu.ready ≡ true)
may_on up k h e = go (core_of h.cores k).on (up k) (core_of h.cores k).cpu.ready e
  where
    go : (a b c : Bool) → (a && (b && c)) ≡ true → (a ≡ true) × (b ≡ true) × (c ≡ true)
    go a b c e = grind arith

pub attends_keeps : (up : ℕ → Bool) (n k : ℕ) → Keeps toy_isa Agrees n (attends up k)
unfolding with_lines core
attends_keeps up n k h m w s μ e g = choose (λ r. After toy_isa Agrees r m w s μ) (may up k h) _ _
    (λ t. let o = (may_on up k h t).0 in
    let z = entered_core h.cores k h.turn o in
    record {
      machines = ap (λ (ν : Manual toy_isa). events toy_isa ν (interrupt k ∷ [])) g.machines ∙ did_interrupt toy_isa (manual_of h m s) k o ∙ rw (append_nil s);
      size = g.size;
      four = rw (length-set h.cores k (entered (core_of h.cores k))) g.four;
      turns = rw (length-set h.cores k (entered (core_of h.cores k))) g.turns;
      proper = g.proper;
      fits = fits_same h.phase (mine h) _ h.size m z.0 z.1 g.fits;
      waiting = append_nil w ∙ g.waiting ∙ row_same h.phase (mine h) _ z.1;
    })
    (λ t. stay_keeps toy_isa Agrees h m w s μ g)

-- an instruction that is over: ws is the line that it stores to
abbrev Right : List (List ℕ) → List ℕ → Did Registers → Type 0
Right m ws (goes c) = Unit {0}
Right m ws (stores a v c) = (ws ≡ get_or m (a / 8) []) × (a / 8 < length m) × (v < 4294967296)
Right m ws (says x c) = Unit {0}
Right m ws stops = Unit {0}

does_right : (m : List (List ℕ)) (c : Registers) (w : ℕ) → c.pc / 8 < length m → Right m (get_or m (c.pc / 8) []) (does c w)
does_right m c w l = choose (Right m (get_or m (c.pc / 8) [])) (eqb w 0) _ _ (λ _. tt)
    (λ _. choose (Right m (get_or m (c.pc / 8) [])) (eqb w 1) _ _ (λ _. tt) (λ _. choose (Right m (get_or m (c.pc / 8) [])) (eqb w 2) _ _ (λ _. (refl, l, omega arith)) (λ _. tt)))

following_small : (n t : ℕ) → t < n → following n t < n
following_small n t l = grind arith

ltb_true : (a b : ℕ) → a < b → ltb a b ≡ true
ltb_true a b l = grind arith

pub finish_did : (ws : List ℕ) (d : Did Registers) (h : State) → (finishes ws d h).1.did ≡ step h.turn ∷ []
finish_did ws (goes c) h = refl
finish_did ws (stores a v c) h = refl
finish_did ws (says x c) h = refl
finish_did ws stops h = refl

-- what an instruction does, by the line of its pc; and past the memory
does_here : (m : List (List ℕ)) (c : Registers) → c.pc / 8 < length m → toy_isa.one (length m) c (word m) ≡ does c (get_or (get_or m (c.pc / 8) []) (c.pc % 8) 0)
unfolding word
does_here m c l = rw (ltb_true (c.pc / 8) (length m) l)

stops_past : (m : List (List ℕ)) (n : ℕ) (c : Registers) → length m ≡ n → ltb (c.pc / 8) n ≡ false → toy_isa.one (length m) c (word m) ≡ stops
stops_past m n c e l = rw (e, l)

module _ (cs : List (Core toy_isa)) (n t : ℕ) (m : List (List ℕ)) (s : List (ℕ × ℕ)) where
  -- the machines, where nothing is left to write
  abbrev settled : Manual toy_isa
  settled = record { cores = cs; memory = m; said = s }

  -- an instruction does to the machines what it does to the chip and the board
  after_same : (ws : List ℕ) (d : Did Registers) (p : Phase) → Right m ws d →
      after toy_isa settled t d
      ≡ manual_of (finishes ws d (chip_at cs n t p)).0 (with_lines m (finishes ws d (chip_at cs n t p)).1.writes) (s ++ (finishes ws d (chip_at cs n t p)).1.says)
  unfolding after with_lines with_word core
  after_same ws (goes c) p r = rw (append_nil s)
  after_same ws (stores a v c) p r = rw (append_nil s, r.0)
  after_same ws (says x c) p r = refl
  after_same ws stops p r = rw (append_nil s)

  module _ (size : length m ≡ n) (four : length cs ≤ 4) (turns : t < length cs) (proper : Memory m) where
    -- the rest of the agreement where the turn has passed
    passed : (p : Phase) (x : Core toy_isa) (q : Phase) (u : List (ℕ × ℕ)) (μ : Manual toy_isa) → μ ≡ manual_of (passes q x (chip_at cs n t p)) m u →
        ((y : Core toy_isa) → Fits q y n m) → ((y : Core toy_isa) → row q y ≡ []) → Agrees (passes q x (chip_at cs n t p)) m [] u μ
    passed p x q u μ e f r = record {
      machines = e;
      size = size;
      four = rw (length-set cs t x) four;
      turns = rw (length-set cs t x) (following_small (length cs) t turns);
      proper = proper;
      fits = f _;
      waiting = sym (r _);
    }

    finish_agrees : (ws : List ℕ) (d : Did Registers) (p : Phase) (μ : Manual toy_isa) → Right m ws d →
        μ ≡ manual_of (finishes ws d (chip_at cs n t p)).0 (with_lines m (finishes ws d (chip_at cs n t p)).1.writes) (s ++ (finishes ws d (chip_at cs n t p)).1.says) →
        Agrees (finishes ws d (chip_at cs n t p)).0 (with_lines m (finishes ws d (chip_at cs n t p)).1.writes) ([] ++ (finishes ws d (chip_at cs n t p)).1.asks) (s ++ (finishes ws d (chip_at cs n t p)).1.says) μ
    unfolding with_lines
    finish_agrees ws (goes c) p μ r e = passed p _ idle _ μ e (λ y. tt) (λ y. refl)
    finish_agrees ws (stores a v c) p μ r e = passed p _ (dirty (a / 8) (set ws (a % 8) v)) _ μ e
        (λ y. line_set ws (a % 8) v (rw r.0 (memory_line m (a / 8) proper r.1)) r.2) (λ y. refl)
    finish_agrees ws (says x c) p μ r e = passed p _ idle _ μ e (λ y. tt) (λ y. refl)
    finish_agrees ws stops p μ r e = passed p _ idle _ μ e (λ y. tt) (λ y. refl)

    finish_keeps : (ws : List ℕ) (d : Did Registers) (p : Phase) (μ : Manual toy_isa) → Right m ws d → (core_of cs t).on ≡ true →
        toy_isa.one (length m) (core_of cs t).cpu (word m) ≡ d → μ ≡ settled → After toy_isa Agrees (finishes ws d (chip_at cs n t p)) m [] s μ
    unfolding core
    finish_keeps ws d p μ r o e z = finish_agrees ws d p _ r
        (ap (events toy_isa μ) (finish_did ws d (chip_at cs n t p)) ∙ ap (λ (ν : Manual toy_isa). events toy_isa ν (step t ∷ [])) z ∙ did_step toy_isa settled t d o e ∙ after_same ws d p r)

  act : (p : Phase) (μ : Manual toy_isa) → Agrees (chip_at cs n t p) m (row p (core_of cs t)) s μ → After toy_isa Agrees (acts_at p (chip_at cs n t p)) m (row p (core_of cs t)) s μ
  unfolding with_lines events
  act idle μ g = choose (λ r. After toy_isa Agrees r m [] s μ) (core_of cs t).on _ _
      (λ o. choose (λ r. After toy_isa Agrees r m [] s μ) (ltb (line (core_of cs t)) n) _ _
      (λ l. record {
        machines = g.machines ∙ rw (append_nil s);
        size = g.size;
        four = g.four;
        turns = g.turns;
        proper = g.proper;
        fits = (o, less (line (core_of cs t)) n l);
        waiting = refl;
      })
      (λ l. finish_keeps g.size g.four g.turns g.proper [] stops idle μ tt o (stops_past m n (core_of cs t).cpu g.size l) g.machines))
      (λ o. record {
        machines = g.machines ∙ rw (append_nil s);
        size = g.size;
        four = g.four;
        turns = following_small (length cs) t g.turns;
        proper = g.proper;
        fits = tt;
        waiting = refl;
      })
  act waits μ g = stay_keeps toy_isa Agrees (chip_at cs n t waits) m _ s μ g
  act (holds ws) μ g =
      let c : Registers = (core_of cs t).cpu in
      let l : c.pc / 8 < length m = rw g.size g.fits.1 in
      finish_keeps g.size g.four g.turns g.proper ws (does c (get_or ws (c.pc % 8) 0)) (holds ws) μ
      (subst (λ (v : List ℕ). Right m v (does c (get_or v (c.pc % 8) 0))) (sym g.fits.2) (does_right m c (get_or (get_or m (c.pc / 8) []) (c.pc % 8) 0) l)) g.fits.0
      (does_here m c l ∙ ap (λ (v : List ℕ). does c (get_or v (c.pc % 8) 0)) (sym g.fits.2)) g.machines
  act (dirty a ws) μ g = record {
    machines = g.machines ∙ rw (append_nil s);
    size = length-set m a ws ∙ g.size;
    four = g.four;
    turns = g.turns;
    proper = memory_set m a ws g.proper g.fits;
    fits = tt;
    waiting = refl;
  }

pub acts_keeps : (n : ℕ) → Keeps toy_isa Agrees n acts
acts_keeps n h m w s μ e g = subst (λ (v : List ℕ). After toy_isa Agrees (acts h) m v s μ) (sym g.waiting)
    (act h.cores h.size h.turn m s h.phase μ (subst (λ (v : List ℕ). Agrees h m v s μ) g.waiting g))

pub loop_keeps : (up : ℕ → Bool) (n : ℕ) → Keeps toy_isa Agrees n (each (attends up) 4)
loop_keeps up n = each_keeps toy_isa Agrees n (attends up) 4 (λ k l. attends_keeps up n k)

-- a cycle keeps the agreement
pub cycle_keeps : (h : State) (m : List (List ℕ)) (w : List ℕ) (s : List (ℕ × ℕ)) (μ : Manual toy_isa) (gs : List ℕ) (up : ℕ → Bool) → Agrees h m w s μ →
    After toy_isa Agrees (toy_cycle h (handed m gs 0 w) up) m (kept gs 0 w) s μ
cycle_keeps h m w s μ gs up g =
    then_keeps toy_isa Agrees (length μ.cores) (each (attends up) 4) acts (loop_keeps up (length μ.cores)) (acts_keeps (length μ.cores))
    (gives (handed m gs 0 w) h).0 m (kept gs 0 w) s μ refl (gives_agrees h m w s μ gs g)
