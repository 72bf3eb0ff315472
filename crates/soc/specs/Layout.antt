-- How the chip's state lies in the lent words, a word for each field.
-- Every content of the words is a state. Assumes nothing: these are definitions.
use Rattle.std.specs.Prelude.{ℕ, ◌%◌, min, Bool, List, Some, None, Option, slice_index}
use Rattle.words.specs.Parts.{part}
use Rattle.rv32.specs.declared.core_state.Core.{Core}
use Rattle.cores.specs.Machines.{pick}
use Rattle.cores.specs.Put.{put}
use Rattle.cores.specs.Registers.{flag, cpus_of, ons_of}
use Rattle.cores.specs.declared.port.Line.{Line}
use Rattle.soc.specs.Rv.{rv}
use Rattle.soc.specs.Soc.{State}
use Rattle.soc.specs.declared.control.Control.{Control}

-- ten words of a line buffer: whether it is full, the line's number, and its eight words
abbrev pub buffer_of : List ℕ → Option Line
buffer_of b = pick (flag (slice_index b 0)) (Some (record { number = slice_index b 1; words = part 2 8 b })) None

-- a line that may be asked for: whether it is, and its number
abbrev pub asked_of : ℕ → ℕ → Option ℕ
asked_of full number = pick (flag full) (Some number) None

-- 25 words of what the cores share: how many cores there are, how many lines memory has, whose turn it is, the line asked for, and the two buffers
abbrev pub control_of : List ℕ → Control
control_of b = record {
  count = min (slice_index b 0) 4;
  size = slice_index b 1;
  turn = slice_index b 2 % 4;
  asked = asked_of (slice_index b 3) (slice_index b 4);
  fetched = buffer_of (part 5 10 b);
  loaded = buffer_of (part 15 10 b);
}

-- the state with these registers, with these cores going, and with what is shared
abbrev pub state_from : (ℕ → Core) → (ℕ → Bool) → Control → State rv
state_from cpu on c = record {
  count = c.count;
  size = c.size;
  turn = c.turn;
  cpu = cpu;
  on = on;
  fetched = c.fetched;
  loaded = c.loaded;
  asked = c.asked;
}

-- THE STATE: cores in words 0 to 139, whether they go in 140 to 143, what they share in 144 to 168; the others are not used
unfoldable pub state_of : List ℕ → State rv
state_of w = state_from (cpus_of (part 0 140 w)) (ons_of (part 140 4 w)) (control_of (part 144 25 w))

-- what the cores share of a state
abbrev pub shared : State rv → Control
shared h = record { count = h.count; size = h.size; turn = h.turn; asked = h.asked; fetched = h.fetched; loaded = h.loaded }

-- a state with other registers of core k, with core k on or off, and with another thing shared
abbrev pub with_cpu : State rv → ℕ → Core → State rv
with_cpu h k c = state_from (put h.cpu k c) h.on (shared h)

abbrev pub with_on : State rv → ℕ → Bool → State rv
with_on h k b = state_from h.cpu (put h.on k b) (shared h)

abbrev pub with_shared : State rv → Control → State rv
with_shared h c = state_from h.cpu h.on c
