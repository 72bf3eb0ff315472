-- The row of lines that wait, by value, as a list; and the lines that a chip asks for and writes.
-- Assumes nothing: these are definitions.
use Rattle.std.specs.Prelude.{ℕ, suc, Bool, true, cond, ◌&&◌, List, [], ◌∷◌, ◌++◌, Some, None, Option, ◌==◌, nat_lt, slice_index_or}
use Rattle.std.specs.Option.{option_to_list}
use Rattle.cores.specs.Board.{among}
use Rattle.cores.specs.Ports.{line_of, somes}
use Rattle.cores.specs.declared.port.Line.{Line}
use Rattle.cores.specs.declared.port.Out.{Out}
use Rattle.board.specs.declared.row.Row.{Row}
use Rattle.board.specs.declared.row.Waiting.{Waiting}

-- those that wait, the oldest first
abbrev pub items_of : Row → List Waiting
items_of r = r.waiting.items

-- what is made of those that wait, the first of which has place i, where something is
abbrev pub chosen : {T : Type 0} → (ℕ → Waiting → Option T) → ℕ → List Waiting → List T
chosen of i [] = []
chosen of i (w ∷ rest) = option_to_list (of i w) ++ chosen of (suc i) rest

-- the line of one that waits, alone and with the cycles after the next till it comes
abbrev pub line_in : Waiting → ℕ
line_in w = w.line

abbrev pub pair_in : Waiting → ℕ × ℕ
pair_in w = (w.line, w.left)

-- line n of memory m, with its number
abbrev pub line_there : List (List ℕ) → ℕ → Line
line_there m n = record { number = n; words = slice_index_or m n [] }

-- the line of one that waits, with what memory has there, where its place is among those given
abbrev pub comes_at : List (List ℕ) → List ℕ → ℕ → Waiting → Option Line
comes_at m gs i w = cond (among i gs) (Some (line_there m w.line)) None

-- and where its time has come
abbrev pub comes_now : List (List ℕ) → Waiting → Option Line
comes_now m w = cond (w.left == 0) (Some (line_there m w.line)) None

-- whether each is one of memory's n lines
abbrev pub inside : ℕ → List ℕ → Bool
inside n [] = true
inside n (a ∷ rest) = nat_lt a n && inside n rest

-- the lines that a chip asks for, and those that it writes
abbrev pub asks_of : Out → List ℕ
asks_of o = somes (λ a. a) (o.asks ∷ [])

abbrev pub writes_of : Out → List (ℕ × List ℕ)
writes_of o = somes line_of o.writes
