-- What the steps of a cycle put out, over the values that the code has.
-- Assumes nothing: these are definitions.
use Rattle.std.specs.Prelude.{◌≡◌, ℕ, zero, suc, ◌+◌, ◌*◌, Bool, false, not, ◌||◌, List, [], ◌∷◌, ◌++◌, Some, None, Option, ◌==◌, ◌≢◌}
use Rattle.rv32.specs.declared.core_state.Core.{Core}
use Rattle.cores.specs.Board.{Out}
use Rattle.cores.specs.Loop as loop
use Rattle.cores.specs.Ports.{event_of, line_of, said_at, somes}
use Rattle.cores.specs.declared.port.Event.{Event}
use Rattle.cores.specs.declared.port.Event.TheVariants.{Step, Interrupt}
use Rattle.cores.specs.declared.port.Line.{Line}
use Rattle.cache.specs.Slots.{Slot, Lack, cached, first, seek}
use Rattle.cache.specs.Words.{is_write}
use Rattle.link.specs.Messages.{is_quiet, is_unasked}
use Rattle.link.specs.declared.probe.Probe.{Probe}
use Rattle.cached.specs.Kind.{code, operand}
use Rattle.cached.specs.Rv.{rv}
use Rattle.cached.specs.Soc.{State, lets_go}
use Rattle.cached.specs.declared.control.Acted.{Acted}

-- a line that is written, if there is one, and nothing else
abbrev pub only_writes : Option Line → Out
only_writes w = record { asks = []; writes = somes line_of (w ∷ []); says = []; did = [] }

-- the lines of a row, and nothing else
abbrev pub all_writes : List (Option Line) → Out
all_writes ws = record { asks = []; writes = somes line_of ws; says = []; did = [] }

-- a line that is asked for, if there is one, and nothing else
abbrev pub only_asks : Option ℕ → Out
only_asks a = record { asks = somes (λ x. x) (a ∷ []); writes = []; says = []; did = [] }

-- what core k puts out when it acts: a line that it writes, a word that it says, and its event
abbrev pub acted : ℕ → Acted → Out
acted k a = record { asks = []; writes = somes line_of (a.wrote ∷ []); says = somes (λ x. (k, x)) (a.said ∷ []); did = somes event_of (a.did ∷ []) }

-- what the next instruction of a core lacks, in a memory of n lines, by the slots of its own cache
abbrev pub lacking : ℕ → Core → (ℕ → Slot) → Lack
lacking n c f = first (seek f 0 (code rv n c)) (seek f 0 (operand rv n c (cached f 0)))

-- core k lets go of a line, as a probe asks it to
abbrev pub lets_go_of : ℕ → Probe → loop.Step (State rv)
lets_go_of k p = lets_go rv (64 * k + p.slot) p.line (is_write p.access)

-- which message each core takes: its grant, if that stands there already or nothing is asked of it
abbrev pub dues : State rv → ℕ → Bool
dues h k = is_unasked (h.hints.probe k) || not (is_quiet (h.lines.coming k))

-- what the cores put out when they act, in the order of the cores: the lines that they write, the words that they say, and their events
abbrev pub all_acted : List (Option Line) → List (ℕ × ℕ) → List (Option Event) → Out
all_acted ws ss es = record { asks = []; writes = somes line_of ws; says = ss; did = somes event_of es }

-- the words that the first k cores have said, of eight words, two for each core
abbrev pub said_first : ℕ → List ℕ → List (ℕ × ℕ)
said_first zero w = []
said_first (suc k) w = said_first k w ++ said_at w k

-- core k says a word, or nothing, and the words of the others stay
pub record Says (k : ℕ) (word : Option ℕ) (before after : List ℕ) : Type 0 where
  pub here : said_at after k ≡ somes (λ x. (k, x)) (word ∷ [])
  pub others : (j : ℕ) → (j ≢ k) → said_at after j ≡ said_at before j

-- an event, if there is one, is an instruction of core k
abbrev pub is_step : ℕ → Option Event → Bool
is_step k None = false
is_step k (Some (Step j)) = j == k
is_step k (Some (Interrupt j)) = false
