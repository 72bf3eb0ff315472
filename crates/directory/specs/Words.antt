-- How the directory's tables lie in lent words, a word for each field, and what the code's values of them mean.
-- Every content of the words is a table. Assumes nothing: these are definitions.
use Rattle.std.specs.Prelude.{ℕ, ◌+◌, ◌*◌, ◌%◌, true, false, List, Some, None, Option, ◌==◌, nat_lt, slice_index}
use Rattle.words.specs.Parts.{block}
use Rattle.cores.specs.Machines.{pick}
use Rattle.cache.specs.Words.{access_in, is_write}
use Rattle.link.specs.Words.{flag}
use Rattle.directory.specs.Directory as known
use Rattle.directory.specs.declared.entry.Entry.{Entry}
use Rattle.directory.specs.declared.entry.Entry.TheVariants.{Nobody, Shared, Owned}
use Rattle.directory.specs.declared.request.Stage.{Stage}
use Rattle.directory.specs.declared.request.Stage.TheVariants.{Queued, Probing, Fetching}
use Rattle.directory.specs.declared.request.Request.{Request}

-- what an entry says of a place
abbrev pub entry_of : Entry → known.Entry
entry_of Nobody = known.nobody
entry_of (Shared a) = known.tagged a false
entry_of (Owned a) = known.tagged a true

-- two words of an entry: 0, 1 or another number, and the line
abbrev pub entry_in : List ℕ → Entry
entry_in b = pick (slice_index b 0 == 0) Nobody (pick (slice_index b 0 == 1) (Shared (slice_index b 1)) (Owned (slice_index b 1)))

-- 256 entries, by place; nobody has anything beyond
abbrev pub entries_of : List ℕ → ℕ → known.Entry
entries_of w p = pick (nat_lt p 256) (entry_of (entry_in (block 2 w p))) known.nobody

abbrev pub stage_of : Stage → known.Stage
stage_of Queued = known.queued
stage_of Probing = known.probing
stage_of Fetching = known.fetching

-- what core k has asked for: the place is that of a slot of its own cache
abbrev pub request_of : ℕ → Option Request → known.Request
request_of k None = known.idle
request_of k (Some r) = known.wants r.line (is_write r.access) (64 * k + r.slot) (stage_of r.stage)

abbrev pub stage_in : ℕ → Stage
stage_in x = pick (x == 0) Queued (pick (x == 1) Probing Fetching)

-- five words of a request: whether there is one, the line, whether to write it, the slot, and how far it is
abbrev pub request_in : List ℕ → Option Request
request_in b =
    pick (flag (slice_index b 0))
    (Some (record { line = slice_index b 1; access = access_in (slice_index b 2); slot = slice_index b 3 % 64; stage = stage_in (slice_index b 4) })) None

-- four requests; nothing is asked for beyond
abbrev pub requests_of : List ℕ → ℕ → known.Request
requests_of w k = pick (nat_lt k 4) (request_of k (request_in (block 5 w k))) known.idle
