-- So far the first cores have answered theirs, and the places of the others are empty.
use Rattle.std.proofs.Common.{◌≡◌, ℕ, ◌≤◌, length, get_or, None}
use Rattle.cores.specs.Loop.{each}
use Rattle.cached.specs.Layout.{state_of}
use Rattle.cached.specs.Puts.{all_writes}
use Rattle.cached.specs.Rv.{rv}
use Rattle.cached.specs.Soc.{answer_probe}
use Rattle.cached.proofs.reply.answer_all.Given as goal

abbrev pub invariant-loop-k : goal.invariant-loop-k
invariant-loop-k l =
    (length l.written ≡ 4) × ((j : ℕ) → l.k ≤ j → get_or l.written j None ≡ None)
    × ((state_of l.chip, all_writes l.written) ≡ each (answer_probe rv) l.k (state_of l.initial.chip))
