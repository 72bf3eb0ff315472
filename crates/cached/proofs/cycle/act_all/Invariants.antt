-- The first k cores have acted, and the places of the others in the rows are empty.
use Rattle.std.proofs.Common.{◌≡◌, ℕ, ◌≤◌, false, length, get_or, None}
use Rattle.cores.specs.Loop.{each}
use Rattle.cached.specs.Layout.{state_of}
use Rattle.cached.specs.Puts.{all_acted, said_first}
use Rattle.cached.specs.Rv.{rv}
use Rattle.cached.specs.Soc.{act}
use Rattle.cached.proofs.cycle.act_all.Given as goal

abbrev pub invariant-loop-k : goal.invariant-loop-k
invariant-loop-k l =
    ((state_of l.chip, all_acted l.wrote (said_first l.k l.said) l.did) ≡ each (act rv (λ j. get_or l.up j false)) l.k (state_of l.initial.chip))
    × (length l.wrote ≡ 4)
    × (length l.did ≡ 8)
    × ((j : ℕ) → l.k ≤ j → get_or l.wrote j None ≡ None)
    × ((j : ℕ) → l.k ≤ j → get_or l.did j None ≡ None)
