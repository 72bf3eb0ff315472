-- What a chip promises, for any kind of core and any chip: eight statements, each a type whose proof is owed.
-- Assumes nothing: these are definitions.
use Rattle.std.specs.Prelude.{◌≡◌, ℕ, suc, ◌+◌, ◌*◌, ◌<◌, ◌≤◌, Bool, true, false, ◌⊎◌, List, [], ◌∷◌, ◌++◌, length, ◌==◌, slice_index, slice_index_or}
use Rattle.cores.specs.Machines.{pick, Event, interrupt, steps, interrupts, said_by, Isa, Core, core, manual_after}
use Rattle.cores.specs.Board.{Choice, Board, Chip, powered, steady, steady_start}

-- memories that can be brought: 1 to 65,536 lines of eight words of 32 bits
unfoldable pub Memory : List (List ℕ) → Type 0
Memory m =
    (1 ≤ length m) × (length m ≤ 65536) × ((k : ℕ) → k < length m → length (slice_index_or m k []) ≡ 8) × ((k j : ℕ) → slice_index (slice_index_or m k []) j < 4294967296)

-- how often line a is in a row of lines
unfoldable pub once : ℕ → List ℕ → ℕ
once a [] = 0
once a (b ∷ bs) = pick (a == b) (suc (once a bs)) (once a bs)

-- core k of n machines that began with memory m, after these events
abbrev pub machine : (I : Isa) → ℕ → List (List ℕ) → List Event → ℕ → Core I
machine I n m es k = core I (manual_after I n m es) k

-- the board around a chip of n cores with memory m, after these choices
abbrev pub board : Chip → ℕ → List (List ℕ) → List Choice → Board
board C n m cs = (powered C n m cs).1

-- all that a chip of n cores with memory m has done before cycle c, where line a that is asked for in cycle d comes late d a cycles after the next,
-- and the interrupt lines in cycle d are up d
abbrev pub done : Chip → ℕ → List (List ℕ) → (ℕ → ℕ → Bool) → (ℕ → ℕ → ℕ) → ℕ → List Event
done C n m up late c = (steady C up late c (steady_start C n m)).did

module _ (I : Isa) (C : Chip) where
  -- THE MAIN PROMISE: for every memory at power-on and every way in which the outside gives lines and raises interrupts, each core has said
  -- what it says as one of the manual's machines that take turns at one memory, in the order in which the chip has done their events
  unfoldable pub SameSaid : Type 0
  SameSaid =
      (n : ℕ) (m : List (List ℕ)) (cs : List Choice) (k : ℕ) → 1 ≤ n → n ≤ 4 → Memory m →
      said_by k (board C n m cs).said ≡ said_by k (manual_after I n m (board C n m cs).did).said

  -- a core takes no interrupt in a cycle in which its line is down
  unfoldable pub WhenRaised : Type 0
  WhenRaised =
      (n : ℕ) (m : List (List ℕ)) (cs : List Choice) (c : Choice) (k : ℕ) → 1 ≤ n → n ≤ 4 → Memory m → c.raised k ≡ false →
      interrupts k (board C n m (cs ++ c ∷ [])).did ≡ interrupts k (board C n m cs).did

  -- it takes one only where the manual lets it, and never after its end
  unfoldable pub WhereLet : Type 0
  WhereLet =
      (n : ℕ) (m : List (List ℕ)) (cs : List Choice) (es rest : List Event) (k : ℕ) → 1 ≤ n → n ≤ 4 → Memory m → (board C n m cs).did ≡ es ++ interrupt k ∷ rest →
      (I.lets (machine I n m es k).cpu ≡ true) × ((machine I n m es k).on ≡ true)

  -- no core is kept from going on: on a board that gives each line after l cycles at the latest, whichever interrupt lines are up, every core does
  -- one more instruction in every 256 (l + 1) cycles, from any cycle on, until it stops
  unfoldable pub AllGoOn : Type 0
  AllGoOn =
      (n l s t k : ℕ) (m : List (List ℕ)) (up : ℕ → ℕ → Bool) (late : ℕ → ℕ → ℕ) → 1 ≤ n → n ≤ 4 → Memory m → k < n → ((c a : ℕ) → late c a ≤ l) →
      (steps k (done C n m up late s) + t ≤ steps k (done C n m up late (s + 256 * (l + 1) * t)))
      ⊎ ((machine I n m (done C n m up late (s + 256 * (l + 1) * t)) k).on ≡ false)

  -- and where its line stays up, each core takes an interrupt within 256 (l + 1) cycles from any in which the manual lets it, or the manual does not
  -- let it any more, or the core stops
  unfoldable pub Taken : Type 0
  Taken =
      (n l s k : ℕ) (m : List (List ℕ)) (up : ℕ → ℕ → Bool) (late : ℕ → ℕ → ℕ) → 1 ≤ n → n ≤ 4 → Memory m → k < n → ((c a : ℕ) → late c a ≤ l) →
      ((c : ℕ) → s ≤ c → c < s + 256 * (l + 1) → up c k ≡ true) →
      I.lets (machine I n m (done C n m up late s) k).cpu ≡ true →
      (interrupts k (done C n m up late s) < interrupts k (done C n m up late (s + 256 * (l + 1))))
      ⊎ ((I.lets (machine I n m (done C n m up late (s + 256 * (l + 1))) k).cpu ≡ false)
      ⊎ ((machine I n m (done C n m up late (s + 256 * (l + 1))) k).on ≡ false))

  -- at most one instruction of each core in a cycle
  unfoldable pub OneEach : Type 0
  OneEach =
      (n k : ℕ) (m : List (List ℕ)) (cs : List Choice) (c : Choice) → 1 ≤ n → n ≤ 4 → Memory m →
      steps k (board C n m (cs ++ c ∷ [])).did ≤ steps k (board C n m cs).did + 1

  -- at most sixteen lines are waited for, none twice, none outside the memory; and memory stays one of words
  unfoldable pub Few : Type 0
  Few =
      (n : ℕ) (m : List (List ℕ)) (cs : List Choice) (a : ℕ) → 1 ≤ n → n ≤ 4 → Memory m →
      (length (board C n m cs).waiting ≤ 16) × (once a (board C n m cs).waiting ≤ 1)
      × (length m ≤ a → once a (board C n m cs).waiting ≡ 0) × Memory (board C n m cs).memory

  -- once all cores have stopped, and 8192 cycles more, memory outside is the manual's, however lines are given then
  unfoldable pub CleanAfter : Type 0
  CleanAfter =
      (n : ℕ) (m : List (List ℕ)) (cs ds : List Choice) → 1 ≤ n → n ≤ 4 → Memory m →
      ((k : ℕ) → k < n → (machine I n m (board C n m cs).did k).on ≡ false) → 8192 ≤ length ds →
      (board C n m (cs ++ ds)).memory ≡ (manual_after I n m (board C n m cs).did).memory

  -- all eight
  pub record Promises : Type 0 where
    pub same_said : SameSaid
    pub when_raised : WhenRaised
    pub where_let : WhereLet
    pub all_go_on : AllGoOn
    pub taken : Taken
    pub one_each : OneEach
    pub few : Few
    pub clean_after : CleanAfter
