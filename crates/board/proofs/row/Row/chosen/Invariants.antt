-- What was made of the places passed so far.
use Rattle.std.proofs.Common.{◌≡◌, ℕ, ◌<◌, ◌≤◌, ◌++◌, length, get_or, drop, Option}
use Rattle.board.specs.Rows.{chosen}
use Rattle.board.specs.declared.row.Waiting.{Waiting}
use Rattle.board.proofs.row.Row.chosen.Given as goal

-- with what is made of the places that are left, it is all that is made
abbrev pub invariant-loop-i : goal.invariant-loop-i
invariant-loop-i g l =
    (l.row ≡ l.fn.self.waiting.items)
    × (length l.out.items ≤ l.i)
    × ((of : ℕ → Waiting → Option g.row.T.Denot) → ((i : ℕ) (w : Waiting) (o : Option g.row.T.Denot) → i < length l.row → w ≡ get_or l.row i w → goal.F-post g l.choose i w o → o ≡ of i w) →
    l.out.items ++ chosen of l.i (drop l.i l.row) ≡ chosen of 0 l.row)
