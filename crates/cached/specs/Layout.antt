-- How the chip's state lies in the lent words.
-- Every content of the words is a state. Assumes nothing: these are definitions.
use Rattle.std.specs.Prelude.{ℕ, ◌%◌, min, Bool, true, List, nat_lt, slice_index}
use Rattle.words.specs.Parts.{part}
use Rattle.rv32.specs.declared.core_state.Core.{Core}
use Rattle.cores.specs.Machines.{pick}
use Rattle.cores.specs.Registers.{cpus_of, flag, ons_of}
use Rattle.cache.specs.Slots.{Slot}
use Rattle.cache.specs.Words.{caches_of}
use Rattle.link.specs.Messages.{Grant, Probe}
use Rattle.link.specs.Words.{grants_of, probes_of}
use Rattle.directory.specs.Directory.{Entry, Request}
use Rattle.directory.specs.Words.{entries_of, requests_of}
use Rattle.cached.specs.Soc.{State}
use Rattle.cached.specs.Rv.{rv}
use Rattle.cached.specs.declared.control.Control.{Control}

-- five words: how many cores there are, how many lines memory has, whose request probes, whose turn it is, and which way is replaced next
abbrev pub control_of : List ℕ → Control
control_of b = record { count = min (slice_index b 0) 4; size = slice_index b 1; lead = slice_index b 2 % 4; turn = slice_index b 3 % 4; way = flag (slice_index b 4) }

-- whether each core's next message is its grant: a word for each; nothing else is on its way to a core that is not there
abbrev pub dues_of : List ℕ → ℕ → Bool
dues_of words k = pick (nat_lt k 4) (flag (slice_index words k)) true

-- the slot that each core hands back next, once it has stopped: a word for each
abbrev pub sweeps_of : List ℕ → ℕ → ℕ
sweeps_of words k = pick (nat_lt k 4) (slice_index words k % 64) 0

-- the state with these parts
abbrev pub state_from : (ℕ → Core) → (ℕ → Bool) → Control → (ℕ → Bool) → (ℕ → ℕ) → (ℕ → Grant) → (ℕ → Probe) → (ℕ → Request) → (ℕ → Entry) → (ℕ → Slot) → State rv
state_from cpu on c due sweep coming told request entry slot = record {
  count = c.count;
  size = c.size;
  cpu = cpu;
  on = on;
  lines = record { slot = slot; coming = coming; entry = entry; request = request };
  hints = record { probe = told; due = due; lead = c.lead; turn = c.turn; way = c.way; sweep = sweep };
}

-- THE STATE: the cores' registers, whether they go, what they share, whose grants are due, what is swept next, the grants, the probes, the requests,
-- the directory's entries, and the caches; the words from 3309 on are not used
unfoldable pub state_of : List ℕ → State rv
state_of w = state_from (cpus_of (part 0 140 w)) (ons_of (part 140 4 w)) (control_of (part 144 5 w)) (dues_of (part 149 4 w)) (sweeps_of (part 153 4 w)) (grants_of (part 157 48 w))
    (probes_of (part 205 12 w)) (requests_of (part 217 20 w)) (entries_of (part 237 512 w)) (caches_of (part 749 2560 w))

-- what the cores share of a state
abbrev pub shared : State rv → Control
shared h = record { count = h.count; size = h.size; lead = h.hints.lead; turn = h.hints.turn; way = h.hints.way }

-- a state with another of its parts
abbrev pub with_cpus : State rv → (ℕ → Core) → State rv
with_cpus h f = state_from f h.on (shared h) h.hints.due h.hints.sweep h.lines.coming h.hints.probe h.lines.request h.lines.entry h.lines.slot

abbrev pub with_ons : State rv → (ℕ → Bool) → State rv
with_ons h f = state_from h.cpu f (shared h) h.hints.due h.hints.sweep h.lines.coming h.hints.probe h.lines.request h.lines.entry h.lines.slot

abbrev pub with_shared : State rv → Control → State rv
with_shared h c = state_from h.cpu h.on c h.hints.due h.hints.sweep h.lines.coming h.hints.probe h.lines.request h.lines.entry h.lines.slot

abbrev pub with_dues : State rv → (ℕ → Bool) → State rv
with_dues h f = state_from h.cpu h.on (shared h) f h.hints.sweep h.lines.coming h.hints.probe h.lines.request h.lines.entry h.lines.slot

abbrev pub with_sweeps : State rv → (ℕ → ℕ) → State rv
with_sweeps h f = state_from h.cpu h.on (shared h) h.hints.due f h.lines.coming h.hints.probe h.lines.request h.lines.entry h.lines.slot

abbrev pub with_grants : State rv → (ℕ → Grant) → State rv
with_grants h f = state_from h.cpu h.on (shared h) h.hints.due h.hints.sweep f h.hints.probe h.lines.request h.lines.entry h.lines.slot

abbrev pub with_asked : State rv → (ℕ → Probe) → State rv
with_asked h f = state_from h.cpu h.on (shared h) h.hints.due h.hints.sweep h.lines.coming f h.lines.request h.lines.entry h.lines.slot

abbrev pub with_requests : State rv → (ℕ → Request) → State rv
with_requests h f = state_from h.cpu h.on (shared h) h.hints.due h.hints.sweep h.lines.coming h.hints.probe f h.lines.entry h.lines.slot

abbrev pub with_entries : State rv → (ℕ → Entry) → State rv
with_entries h f = state_from h.cpu h.on (shared h) h.hints.due h.hints.sweep h.lines.coming h.hints.probe h.lines.request f h.lines.slot

abbrev pub with_slots : State rv → (ℕ → Slot) → State rv
with_slots h f = state_from h.cpu h.on (shared h) h.hints.due h.hints.sweep h.lines.coming h.hints.probe h.lines.request h.lines.entry f
