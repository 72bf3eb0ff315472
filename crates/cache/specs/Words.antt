-- How slots lie in lent words: ten words for each, so 640 for the cache of a core, and 2,560 for the caches of four.
-- Every content of the words is a cache. Assumes nothing: these are definitions.
use Rattle.std.specs.Prelude.{ℕ, ◌/◌, ◌%◌, Bool, true, false, not, List, Some, None, Option, Ok, Err, Result, ◌==◌, nat_lt, slice_index, slice_set}
use Rattle.words.specs.Parts.{part, block}
use Rattle.cores.specs.Machines.{pick}
use Rattle.cores.specs.Put.{put}
use Rattle.cache.specs.Slots.{empty, holds, words, Found, missing, found, find, ready, lacks}
use Rattle.cache.specs.Slots as slots
use Rattle.cache.specs.declared.slot.Slot.{Slot}
use Rattle.cache.specs.declared.slot.Slot.TheVariants.{Empty, Shared, Owned}
use Rattle.cache.specs.declared.slot.Content.{Content}
use Rattle.cache.specs.declared.slot.Access.{Access}
use Rattle.cache.specs.declared.slot.Access.TheVariants.{Read, Write}
use Rattle.cache.specs.declared.slot.Lack.{Lack}

-- what a slot has, with these words beside it
abbrev pub holding : Slot → List ℕ → slots.Slot
holding Empty w = empty
holding (Shared a) w = holds a false false w
holding (Owned a d) w = holds a true d w

abbrev pub content_of : Content → slots.Slot
content_of c = holding c.slot c.words

-- where a line is, and what is lacked
abbrev pub found_of : Option ℕ → Found
found_of None = missing
found_of (Some i) = found i

abbrev pub is_write : Access → Bool
is_write Read = false
is_write Write = true

abbrev pub lack_of : Result (Unit {0}) Lack → slots.Lack
lack_of (Ok _) = ready
lack_of (Err l) = lacks l.line (is_write l.access)

-- what a word says that a line is asked for
abbrev pub access_in : ℕ → Access
access_in x = pick (x == 0) Read Write

-- what a kind and a line's number say: 0 is empty, 1 shared, 2 owned, and any other owned and dirty
abbrev pub tag_of : ℕ → ℕ → Slot
tag_of kind a = pick (kind == 0) Empty (pick (kind == 1) (Shared a) (Owned a (not (kind == 2))))

-- ten words of a slot: its kind, the line's number, and its eight words
abbrev pub slot_of : List ℕ → slots.Slot
slot_of b = holding (tag_of (slice_index b 0) (slice_index b 1)) (part 2 8 b)

-- n slots, by number; one that is not there is empty
abbrev pub table_of : ℕ → List ℕ → ℕ → slots.Slot
table_of n w i = pick (nat_lt i n) (slot_of (block 10 w i)) empty

-- the slots of one core's cache
abbrev pub slots_of : List ℕ → ℕ → slots.Slot
slots_of w = table_of 64 w

-- the slots of all caches, by place
abbrev pub caches_of : List ℕ → ℕ → slots.Slot
caches_of w = table_of 256 w

-- word y is v from now on, where its line is found
abbrev pub stored_at : Found → ℕ → ℕ → (ℕ → slots.Slot) → ℕ → slots.Slot
stored_at missing y v f = f
stored_at (found p) y v f = put f p (holds (y / 8) true true (slice_set (words (f p)) (y % 8) v))

-- a store of core k
abbrev pub stored_in : (ℕ → slots.Slot) → ℕ → ℕ → ℕ → ℕ → slots.Slot
stored_in f k y v = stored_at (find f k (y / 8)) y v f
