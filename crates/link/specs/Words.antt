-- How messages on their way lie in lent words, a word for each field, and what the code's values of them mean.
-- Words keep a slot of the core's own cache, and not a place: so no message reaches the cache of another core, whatever lies in the words.
-- Every content of the words is a row. Assumes nothing: these are definitions.
use Rattle.std.specs.Prelude.{ℕ, ◌+◌, ◌*◌, ◌%◌, Bool, not, List, Some, None, Option, ◌==◌, nat_lt, slice_index}
use Rattle.words.specs.Parts.{part, block}
use Rattle.cores.specs.Machines.{pick}
use Rattle.cache.specs.declared.slot.Access.TheVariants.{Read, Write}
use Rattle.cache.specs.Words.{content_of, is_write, slot_of}
use Rattle.link.specs.Messages as messages
use Rattle.link.specs.declared.grant.Grant.{Grant}
use Rattle.link.specs.declared.probe.Probe.{Probe}

-- a word that says yes or no
abbrev pub flag : ℕ → Bool
flag x = not (x == 0)

-- what core k is granted: the place is that of a slot of its own cache
abbrev pub grant_of : ℕ → Option Grant → messages.Grant
grant_of k None = messages.quiet
grant_of k (Some g) = messages.grant (64 * k + g.slot) (content_of g.content)

-- twelve words of a grant to core k: whether there is one, the slot, and ten words as a cache has them
abbrev pub grant_in : ℕ → List ℕ → messages.Grant
grant_in k b = pick (flag (slice_index b 0)) (messages.grant (64 * k + slice_index b 1 % 64) (slot_of (part 2 10 b))) messages.quiet

-- four grants; nothing is granted beyond
abbrev pub grants_of : List ℕ → ℕ → messages.Grant
grants_of w k = pick (nat_lt k 4) (grant_in k (block 12 w k)) messages.quiet

-- what core k is asked for, likewise
abbrev pub probe_of : ℕ → Option Probe → messages.Probe
probe_of k None = messages.unasked
probe_of k (Some p) = messages.ask (64 * k + p.slot) p.line (is_write p.access)

-- three words of a probe: 0 if there is none, 1 where another wants to read, any other where it wants to write; the slot; and the line
abbrev pub probe_in : List ℕ → Option Probe
probe_in b =
    pick (slice_index b 0 == 0) None (Some (record { slot = slice_index b 1 % 64; line = slice_index b 2; access = pick (slice_index b 0 == 1) Read Write }))

-- four probes; nothing is asked beyond
abbrev pub probes_of : List ℕ → ℕ → messages.Probe
probes_of w k = pick (nat_lt k 4) (probe_of k (probe_in (block 3 w k))) messages.unasked
