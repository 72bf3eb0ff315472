-- From the row and memory in the lent words to the board that they read as.
use Rattle.std.proofs.Common.{◌≡◌, ℕ, List, ◌++◌, IfOk, Ok, Err, Result, sym, ap, ◌∙◌}
use Rattle.cores.specs.Board.{board_after, kept, with_lines}
use Rattle.cores.specs.Ports.{event_of, said_of, somes}
use Rattle.cores.specs.declared.port.Out.{Out}
use Rattle.board.specs.Cycle.{Follows, next_waiting}
use Rattle.board.specs.Layout.{memory_of, waiting_of}
use Rattle.board.specs.Rows.{asks_of, writes_of}

-- memory and the row after a cycle are those of the board after it
follows : (n : ℕ) (before gs : List ℕ) (o : Out) (after : List ℕ) → memory_of n after ≡ with_lines (memory_of n before) (writes_of o) → waiting_of n after ≡ next_waiting n before gs o → Follows n before gs o after
unfolding board_after
follows n before gs o after m w said did c words e =
    let waits = w ∙ ap (λ (hs : List ℕ). kept hs 0 (waiting_of n before) ++ asks_of o) (sym e) in
    λ i. record { memory = m i; waiting = waits i; said = said ++ said_of words; did = did ++ somes event_of o.did }

-- the same of a call that may refuse
pub followed : {X Y : Type 0} (r : Result X Y) (n : ℕ) (before gs : List ℕ) (o : Out) (after : List ℕ) → IfOk r (λ _. memory_of n after ≡ with_lines (memory_of n before) (writes_of o)) →
    IfOk r (λ _. waiting_of n after ≡ next_waiting n before gs o) → IfOk r (λ _. Follows n before gs o after)
followed (Ok x) n before gs o after m w = follows n before gs o after m w
followed (Err y) n before gs o after m w = tt
