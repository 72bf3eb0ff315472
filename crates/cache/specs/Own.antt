-- A core's own cache, and the caches of all cores: what each finds there. The statements are laws whose proofs are owed.
-- Assumes nothing: these are definitions.
use Rattle.std.specs.Prelude.{◌≡◌, ℕ, suc, ◌+◌, ◌*◌, ◌/◌, ◌%◌, ◌<◌, Bool, List, ◌==◌}
use Rattle.rv32.specs.declared.core_state.Need.{Need}
use Rattle.words.specs.Parts.{block, table}
use Rattle.cores.specs.Machines.{pick}
use Rattle.cores.specs.Put.{put}
use Rattle.cache.specs.Slots.{Slot, Found, missing, found, home, find, cached, seek, goes_first, chosen}
use Rattle.cache.specs.Words.{caches_of, slot_of, slots_of, stored_in, table_of}

-- g has the slots of core k, of all slots f
abbrev pub Own : ℕ → (ℕ → Slot) → (ℕ → Slot) → Type 0
Own k f g = (i : ℕ) → i < 64 → g i ≡ f (64 * k + i)

-- all slots f, where those of core k are g
abbrev pub with_own : ℕ → (ℕ → Slot) → (ℕ → Slot) → ℕ → Slot
with_own k f g p = pick (p / 64 == k) (g (p % 64)) (f p)

-- the place of a slot of core k
abbrev pub shifted : ℕ → Found → Found
shifted k missing = missing
shifted k (found i) = found (64 * k + i)

-- the words of core k's cache are a block of all words
abbrev pub OwnWords : Type 0
OwnWords = (w : List ℕ) (k : ℕ) → k < 4 → Own k (caches_of w) (slots_of (block 640 w k))

-- core k finds in all caches what it finds in its own
abbrev pub OwnFinds : Type 0
OwnFinds =
    (k : ℕ) (f g : ℕ → Slot) → Own k f g → ((a : ℕ) → find f k a ≡ shifted k (find g 0 a)) × ((x : ℕ) → cached f k x ≡ cached g 0 x) × ((n : Need) → seek f k n ≡ seek g 0 n)

-- and chooses the same place for a line
abbrev pub OwnChooses : Type 0
OwnChooses =
    (k : ℕ) (f g : ℕ → Slot) (a c : ℕ) (b : Bool) → Own k f g →
    chosen (find f k a) k a (goes_first (f (home k a)) (f (suc (home k a))) c b) ≡ 64 * k + chosen (find g 0 a) 0 a (goes_first (g (home 0 a)) (g (suc (home 0 a))) c b)

-- a slot that is written in its own cache is written in all, and so is a store
abbrev pub OwnWritten : Type 0
OwnWritten = (k i : ℕ) (f g : ℕ → Slot) (x : Slot) → i < 64 → Own k f g → with_own k f (put g i x) ≡ put f (64 * k + i) x

abbrev pub OwnStored : Type 0
OwnStored = (k y v : ℕ) (f g : ℕ → Slot) → Own k f g → with_own k f (stored_in g 0 y v) ≡ stored_in f k y v

-- words in which only the block of core k is another have the caches in which only its own is
abbrev pub OwnWordsWritten : Type 0
OwnWordsWritten = (v w ys : List ℕ) (k : ℕ) → k < 4 → block 640 v ≡ put (block 640 w) k ys → caches_of v ≡ with_own k (caches_of w) (slots_of ys)

-- a place has what its ten words say, and a write to them is one to that place: of n places, so of a core's own 64 and of all 256
abbrev pub PlaceRead : Type 0
PlaceRead = (n : ℕ) (w : List ℕ) (p : ℕ) → p < n → table 10 (λ _. slot_of) w p ≡ table_of n w p

abbrev pub PlaceWritten : Type 0
PlaceWritten =
    (n : ℕ) (v w : List ℕ) (p : ℕ) (x : Slot) → p < n → table 10 (λ _. slot_of) v ≡ put (table 10 (λ _. slot_of) w) p x → table_of n v ≡ put (table_of n w) p x
