-- The directory: which cache has which line, and what each core has asked for.
-- Assumes nothing: these are definitions.
use Rattle.std.specs.Prelude.{ℕ, zero, suc, Bool, true, false, ◌||◌, ◌==◌}
use Rattle.cores.specs.Machines.{pick}
use Rattle.cache.specs.Slots.{Slot, empty, holds, home}
use Rattle.link.specs.Messages.{Probe, unasked, ask}

-- what the directory knows of a place: nothing is there, or a line, and whether it is owned
pub data Entry : Type 0 where
  nobody : Entry
  tagged : ℕ → Bool → Entry

-- what it knows where a slot has x
abbrev pub tag : Slot → Entry
tag empty = nobody
tag (holds a o d w) = tagged a o

-- whether line a is there, to read at least; and to write
abbrev pub held : Entry → ℕ → Bool
held nobody a = false
held (tagged b o) a = b == a

abbrev pub owned : Entry → ℕ → Bool
owned nobody a = false
owned (tagged b o) a = pick o (b == a) false

-- how far a request is: it waits for its start; those who have the line are probed; or the line is fetched from memory
pub data Stage : Type 0 where
  queued : Stage
  probing : Stage
  fetching : Stage

-- what a core has asked for: nothing, or a line, whether to write it, the place that it is for, and how far that is
pub data Request : Type 0 where
  idle : Request
  wants : ℕ → Bool → ℕ → Stage → Request

abbrev pub is_idle : Request → Bool
is_idle idle = true
is_idle (wants a o p s) = false

-- a request fetches line a
abbrev pub fetches : Request → ℕ → Bool
fetches idle a = false
fetches (wants b o p queued) a = false
fetches (wants b o p probing) a = false
fetches (wants b o p fetching) a = b == a

-- a request for line a is under way: it probes or fetches
abbrev pub busy : Request → ℕ → Bool
busy idle a = false
busy (wants b o p queued) a = false
busy (wants b o p probing) a = b == a
busy (wants b o p fetching) a = b == a

-- core j has line a
abbrev pub keeps : (ℕ → Entry) → ℕ → ℕ → Bool
keeps e a j = held (e (home j a)) a || held (e (suc (home j a))) a

-- none of the first j cores has line a
unfoldable pub free : (ℕ → Entry) → ℕ → ℕ → Bool
free e a zero = true
free e a (suc j) = pick (held (e (home j a)) a) false (pick (held (e (suc (home j a))) a) false (free e a j))

-- none of the first j cores has a request for line a under way
unfoldable pub unhurried : (ℕ → Request) → ℕ → ℕ → Bool
unhurried r a zero = true
unhurried r a (suc j) = pick (busy (r j) a) false (unhurried r a j)

-- the probe to core j for line a, to write or to read
abbrev pub question : (ℕ → Entry) → ℕ → Bool → ℕ → Probe
question e a o j = pick (held (e (home j a)) a) (ask (home j a) a o) (pick (held (e (suc (home j a))) a) (ask (suc (home j a)) a o) unasked)
