-- The entries and the requests, each read and written as the words of its place are. Each is a statement whose proof is owed.
-- Assumes nothing.
use Rattle.std.specs.Prelude.{◌≡◌, ℕ, ◌<◌, List}
use Rattle.words.specs.Parts.{put, table}
use Rattle.directory.specs.Directory as known
use Rattle.directory.specs.Words.{entries_of, entry_in, entry_of, request_in, request_of, requests_of}

abbrev pub EntryRead : Type 0
EntryRead = (w : List ℕ) (p : ℕ) → p < 256 → table 2 (λ _ b. entry_of (entry_in b)) w p ≡ entries_of w p

abbrev pub EntryWritten : Type 0
EntryWritten =
    (v w : List ℕ) (p : ℕ) (x : known.Entry) → p < 256 → table 2 (λ _ b. entry_of (entry_in b)) v ≡ put (table 2 (λ _ b. entry_of (entry_in b)) w) p x →
    entries_of v ≡ put (entries_of w) p x

abbrev pub RequestRead : Type 0
RequestRead = (w : List ℕ) (k : ℕ) → k < 4 → table 5 (λ j b. request_of j (request_in b)) w k ≡ requests_of w k

abbrev pub RequestWritten : Type 0
RequestWritten =
    (v w : List ℕ) (k : ℕ) (x : known.Request) → k < 4 → table 5 (λ j b. request_of j (request_in b)) v ≡ put (table 5 (λ j b. request_of j (request_in b)) w) k x →
    requests_of v ≡ put (requests_of w) k x
