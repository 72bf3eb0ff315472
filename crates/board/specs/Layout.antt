-- How the lent words of a board read: memory's lines, and in the 1,024 words after them the row of lines that wait.
-- Assumes nothing: these are definitions.
use Rattle.std.specs.Prelude.{ℕ, ◌+◌, ◌*◌, min, List, map, drop, slice_index}
use Rattle.std.specs.List.{range_with_len}
use Rattle.words.specs.Parts.{lines, part}
use Rattle.cores.specs.Machines.{Event}
use Rattle.cores.specs.Board.{Board}
use Rattle.board.specs.Rows.{line_in, pair_in}
use Rattle.board.specs.declared.row.Waiting.{Waiting}

-- memory has so many lines of eight words, from the first word on
abbrev pub memory_of : ℕ → List ℕ → List (List ℕ)
memory_of n words = lines n words

-- place i of the row, in two words: a line's number, and how many cycles after the next it comes
abbrev pub place : List ℕ → ℕ → Waiting
place words i = record { line = slice_index words (2 * i); left = slice_index words (2 * i + 1) }

-- sixteen places, and then how many of them are taken; more than sixteen reads as sixteen
unfoldable pub row_in : List ℕ → List Waiting
row_in words = map (place words) (range_with_len 0 (min (slice_index words 32) 16))

-- the row after a memory of n lines
unfoldable pub row_of : ℕ → List ℕ → List Waiting
row_of n words = row_in (part (8 * n) 1024 words)

-- the words after the row, which are no part of the board
abbrev pub beyond : ℕ → List ℕ → List ℕ
beyond n words = drop (8 * n + 1024) words

-- the lines that wait, the oldest first
abbrev pub waiting_of : ℕ → List ℕ → List ℕ
waiting_of n words = map line_in (row_of n words)

-- and each with how many cycles after the next it comes
abbrev pub timed_of : ℕ → List ℕ → List (ℕ × ℕ)
timed_of n words = map pair_in (row_of n words)

-- the board, with what was said and done so far, which no word holds
abbrev pub board_of : ℕ → List ℕ → List (ℕ × ℕ) → List Event → Board
board_of n words said did = record { memory = memory_of n words; waiting = waiting_of n words; said = said; did = did }
