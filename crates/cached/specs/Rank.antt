-- What holds of probes and requests, and how far the core whose turn it is is from its next instruction.
-- Assumes nothing: these are definitions.
use Rattle.std.specs.Prelude.{◌≡◌, ℕ, ◌+◌, ◌*◌, ◌/◌, Bool, true, false, not, ◌&&◌, ◌||◌, List, [], ◌∷◌, ◌==◌}
use Rattle.rv32.specs.declared.core_state.Need.{Need}
use Rattle.rv32.specs.declared.core_state.Need.TheVariants.{Nothing, Read, Write}
use Rattle.cores.specs.Machines.{pick}
use Rattle.cached.specs.Kind.{Kind, code, operand}
use Rattle.cache.specs.Slots.{Slot, empty, holds, cached, Lack, ready, lacks, seek}
use Rattle.link.specs.Messages.{Grant, quiet, grant, is_quiet, Probe, unasked, ask, is_unasked, all_unasked}
use Rattle.directory.specs.Directory.{Entry, held, Request, idle, wants, queued, probing, fetching, fetches}
use Rattle.cached.specs.Soc.{State}

-- a request is probing
abbrev pub is_probing : Request → Bool
is_probing idle = false
is_probing (wants a o p queued) = false
is_probing (wants a o p probing) = true
is_probing (wants a o p fetching) = false

-- two tests have the same outcome
abbrev pub alike : Bool → Bool → Bool
alike true o = o
alike false o = not o

-- it is probing for line a, to write or to read as o says
abbrev pub probes : Request → ℕ → Bool → Bool
probes idle a o = false
probes (wants b u p queued) a o = false
probes (wants b u p probing) a o = b == a && alike u o
probes (wants b u p fetching) a o = false

-- what is asked of core k is about a line that it has, for the request q
abbrev pub Asked : (ℕ → Entry) → Request → ℕ → Probe → Type 0
Asked e q k unasked = Unit {0}
Asked e q k (ask p a o) = (p / 64 ≡ k) × (held (e p) a ≡ true) × (probes q a o ≡ true)

-- one request at most is probing, that of core j; what is asked is for it; where it is to write, all who have the line are asked; and while it is
-- probing somebody is asked
pub record Live (e : ℕ → Entry) (r : ℕ → Request) (t : ℕ → Probe) (j : ℕ) : Type 0 where
  pub one : (i : ℕ) → is_probing (r i) ≡ true → i ≡ j
  pub asked : (k : ℕ) → Asked e (r j) k (t k)
  pub all : (p a : ℕ) → probes (r j) a true ≡ true → held (e p) a ≡ true → t (p / 64) ≡ ask p a true
  pub some : is_probing (r j) ≡ true → all_unasked t ≡ false

-- what is on its way to a core, or asked for by it: a line, and whether to write
abbrev pub sent : Grant → Lack
sent quiet = ready
sent (grant p empty) = ready
sent (grant p (holds a o d w)) = lacks a o

abbrev pub out_of : Request → Grant → Lack
out_of idle g = sent g
out_of (wants a o p s) g = lacks a o

-- it is line a, and to write where o asks for that
abbrev pub covers : Lack → ℕ → Bool → Bool
covers ready a o = false
covers (lacks b u) a o = b == a && (u || not o)

abbrev pub same_line : Need → ℕ → Bool
same_line Nothing a = false
same_line (Read x) a = x / 8 == a
same_line (Write x) a = x / 8 == a

-- how many requests more, where the line of the instruction is there: l is its word, d what it needs besides
abbrev pub far_in : Lack → Need → Need → ℕ
far_in out l Nothing = 2
far_in out l (Read x) = pick (same_line l (x / 8)) 2 (pick (covers out (x / 8) false) 0 1)
far_in out l (Write x) = pick (same_line l (x / 8)) 2 (pick (covers out (x / 8) true) 0 1)

-- and where it may be lacked
abbrev pub far : Lack → Lack → Need → Need → ℕ
far ready out l d = far_in out l d
far (lacks a o) out l d = pick (covers out a true) 1 (pick (covers out a false) 2 3)

-- cycles until line a is given, in a row of lines that wait, each with its time
unfoldable pub left : ℕ → List (ℕ × ℕ) → ℕ
left a [] = 0
left a (x ∷ xs) = pick (x.0 == a) x.1 (left a xs)

-- line a waits; line a is given
unfoldable pub waits : ℕ → List (ℕ × ℕ) → Bool
waits a [] = false
waits a (x ∷ xs) = x.0 == a || waits a xs

unfoldable pub given : ℕ → List (ℕ × List ℕ) → Bool
given a [] = false
given a (x ∷ xs) = x.0 == a || given a xs

-- one of four requests fetches line a
abbrev pub fetched : (ℕ → Request) → ℕ → Bool
fetched r a = fetches (r 0) a || fetches (r 1) a || fetches (r 2) a || fetches (r 3) a

-- a probe that waits behind a grant
abbrev pub stuck : Probe → Grant → Bool
stuck unasked g = false
stuck (ask p a o) g = not (is_quiet g)

abbrev pub any_stuck : (ℕ → Probe) → (ℕ → Grant) → Bool
any_stuck t g = stuck (t 0) (g 0) || stuck (t 1) (g 1) || stuck (t 2) (g 2) || stuck (t 3) (g 3)

-- cycles until all probes are answered
abbrev pub asking : (ℕ → Probe) → (ℕ → Grant) → ℕ
asking t g = pick (any_stuck t g) 2 1

abbrev pub number : Bool → ℕ
number true = 1
number false = 0

-- cycles until the request x of core f is granted and taken, at most, on a board that gives each line within l cycles
abbrev pub until_taken : ℕ → List (ℕ × ℕ) → (ℕ → Request) → (ℕ → Grant) → (ℕ → Probe) → ℕ → Request → ℕ
until_taken l w r g t f idle = 1 + number (not (is_quiet (g f))) + number (not (is_unasked (t f)))
until_taken l w r g t f (wants a o p fetching) = left a w + 3
until_taken l w r g t f (wants a o p probing) = asking t g + 2
until_taken l w r g t f (wants a o p queued) = l + 4 + pick (fetched r a) (left a w + 2) (asking t g)

module _ (κ : Kind) where
  -- of core k with registers x and caches f: how many requests more, where out is on its way
  abbrev pub requests_left : ℕ → κ.isa.Cpu → (ℕ → Slot) → ℕ → Lack → ℕ
  requests_left n x f k out = far (seek f k (code κ n x)) out (code κ n x) (operand κ n x (cached f k))

  -- how many requests more core f has to make, after what is on its way
  abbrev pub further : State κ → ℕ → ℕ
  further c f = pick (is_unasked (c.hints.probe f)) (requests_left c.size (c.cpu f) c.lines.slot f (out_of (c.lines.request f) (c.lines.coming f))) 3

  abbrev pub wait : ℕ → List (ℕ × ℕ) → State κ → ℕ → ℕ
  wait l w c f = until_taken l w c.lines.request c.lines.coming c.hints.probe f (c.lines.request f)

  -- THE RANK: cycles until core f does its next instruction, at most, while it is its turn; an interrupt that it may take comes before that
  abbrev pub remaining : ℕ → List (ℕ × ℕ) → State κ → ℕ → ℕ
  remaining l w c f = wait l w c f + (2 * l + 6) * further c f + number (κ.isa.lets (c.cpu f)) * (3 * (2 * l + 6) + 1)
