-- Four grants and four probes, each read and written as the words of its place are. Each is a statement whose proof is owed.
-- Assumes nothing.
use Rattle.std.specs.Prelude.{◌≡◌, ℕ, ◌<◌, List}
use Rattle.words.specs.Parts.{put, table}
use Rattle.link.specs.Messages.{Grant, Probe}
use Rattle.link.specs.Words.{grant_in, grants_of, probe_in, probe_of, probes_of}

abbrev pub GrantRead : Type 0
GrantRead = (w : List ℕ) (k : ℕ) → k < 4 → table 12 grant_in w k ≡ grants_of w k

abbrev pub GrantWritten : Type 0
GrantWritten = (v w : List ℕ) (k : ℕ) (x : Grant) → k < 4 → table 12 grant_in v ≡ put (table 12 grant_in w) k x → grants_of v ≡ put (grants_of w) k x

abbrev pub ProbeRead : Type 0
ProbeRead = (w : List ℕ) (k : ℕ) → k < 4 → table 3 (λ j b. probe_of j (probe_in b)) w k ≡ probes_of w k

abbrev pub ProbeWritten : Type 0
ProbeWritten =
    (v w : List ℕ) (k : ℕ) (x : Probe) → k < 4 → table 3 (λ j b. probe_of j (probe_in b)) v ≡ put (table 3 (λ j b. probe_of j (probe_in b)) w) k x →
    probes_of v ≡ put (probes_of w) k x
