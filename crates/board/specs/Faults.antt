-- When a board refuses, and with which fault.
-- Assumes nothing: these are definitions.
use Rattle.std.specs.Prelude.{ℕ, ◌+◌, ◌*◌, cond, List, length, Some, None, Option, nat_lt}
use Rattle.cores.specs.Ports.{somes}
use Rattle.cores.specs.declared.port.Line.{Line}
use Rattle.cores.specs.declared.port.Out.{Out}
use Rattle.board.specs.Rows.{asks_of, inside}
use Rattle.board.specs.Layout.{waiting_of}
use Rattle.board.specs.declared.fault.Fault.{Fault}
use Rattle.board.specs.declared.fault.Fault.TheVariants.{Short, Full, Outside}

-- the first fault of two
abbrev pub or_else : Option Fault → Option Fault → Option Fault
or_else None later = later
or_else (Some fault) later = Some fault

-- the words don't suffice for so many lines and the row
abbrev pub short : ℕ → List ℕ → Option Fault
short n words = cond (nat_lt (length words) (8 * n + 1024)) (Some Short) None

-- some of these are not among memory's n lines
abbrev pub outside : ℕ → List ℕ → Option Fault
outside n xs = cond (inside n xs) None (Some Outside)

-- there is no place for so many to wait
abbrev pub full : ℕ → Option Fault
full count = cond (nat_lt 16 count) (Some Full) None

-- what is wrong with a board: it is too short, or a line outside memory waits
abbrev pub unsound : ℕ → List ℕ → Option Fault
unsound n words = or_else (short n words) (outside n (waiting_of n words))

-- a line that a chip asks for or writes is not among memory's n
abbrev pub astray : ℕ → Out → Option Fault
astray n o = or_else (outside n (asks_of o)) (outside n (somes (λ (l : Line). l.number) o.writes))

-- what is wrong with a cycle in which a chip puts out o, where so many are left of those that waited
abbrev pub unfit : ℕ → List ℕ → Out → ℕ → Option Fault
unfit n words o left = or_else (unsound n words) (or_else (astray n o) (full (left + length (asks_of o))))
