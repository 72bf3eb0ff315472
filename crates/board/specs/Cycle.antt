-- What a cycle makes of a board in lent words: on a board with choices, and on one that gives each line after so many cycles.
-- Assumes nothing: these are definitions.
use Rattle.std.specs.Prelude.{◌≡◌, ℕ, List, ◌++◌}
use Rattle.cores.specs.Machines.{Event}
use Rattle.cores.specs.Board.{Choice, asked, board_after, kept, later, with_lines}
use Rattle.cores.specs.Ports.{event_of, out_of, said_of, somes}
use Rattle.cores.specs.declared.port.Out.{Out}
use Rattle.board.specs.Rows.{asks_of, writes_of}
use Rattle.board.specs.Layout.{board_of, memory_of, timed_of, waiting_of}

-- those that wait after a cycle in which these places are given
abbrev pub next_waiting : ℕ → List ℕ → List ℕ → Out → List ℕ
next_waiting n words gs o = kept gs 0 (waiting_of n words) ++ asks_of o

-- those that wait after a cycle of the steady board
abbrev pub next_timed : ℕ → List ℕ → ℕ → Out → List (ℕ × ℕ)
next_timed n words late o = later (timed_of n words) ++ asked (λ _. late) (asks_of o)

-- the words before read as a board, the words after as the board after the cycle: for every choice that gives these places, whatever was said
-- and done before, and whatever words the cores say now
abbrev pub Follows : ℕ → List ℕ → List ℕ → Out → List ℕ → Type 0
Follows n before gs o after =
    (said : List (ℕ × ℕ)) (did : List Event) (c : Choice) (words : List ℕ) → c.given ≡ gs →
    board_of n after (said ++ said_of words) (did ++ somes event_of o.did) ≡ board_after (board_of n before said did) c (out_of o words)

-- the same of the steady board's memory and row, where each line asked for now comes late cycles after the next
abbrev pub FollowsSteady : ℕ → List ℕ → ℕ → Out → List ℕ → Type 0
FollowsSteady n before late o after = (memory_of n after ≡ with_lines (memory_of n before) (writes_of o)) × (timed_of n after ≡ next_timed n before late o)
