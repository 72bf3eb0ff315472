-- Memory with the lines written so far, and the row as it was.
use Rattle.std.proofs.Common.{◌≡◌, map}
use Rattle.cores.specs.Board.{with_lines}
use Rattle.cores.specs.Ports.{line_of}
use Rattle.board.specs.Layout.{beyond, memory_of, row_of}
use Rattle.board.proofs.layout.write_lines.Given as goal

-- memory has the lines written so far
abbrev pub invariant-loop-line : goal.invariant-loop-line
invariant-loop-line l =
    (memory_of l.lines l.board ≡ with_lines (memory_of l.lines l.initial.board) (map (λ y. line_of y.now) l.yielded))
    × (row_of l.lines l.board ≡ row_of l.lines l.initial.board)
    × (beyond l.lines l.board ≡ beyond l.lines l.initial.board)
