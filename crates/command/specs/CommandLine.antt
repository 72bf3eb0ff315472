-- The words that are still to come, and what is said of them.
-- Assumes nothing: these are definitions.
use Rattle.std.specs.Prelude.{ℕ, Bool, ◌&&◌, List, ◌++◌, length, ◌==◌, nat_lt, slice_index}
use lib.Chars.{codes}
use Rattle.std.specs.Vec.Iter.{into_iter_items}
use Rattle.command.specs.declared.words.Words.{Words}

-- how many there are
abbrev pub words_left : Words → ℕ
words_left w = length (into_iter_items w.words)

-- whether a word begins like an option
abbrev pub names_option : List ℕ → Bool
names_option word = nat_lt 0 (length word) && slice_index word 0 == 45

-- where the help of a program is
abbrev pub see_help : List ℕ → List ℕ
see_help program = codes " (see " ++ program ++ codes " --help)"

-- what is wrong with a word
abbrev pub blame : List ℕ → List ℕ → List ℕ → List ℕ
blame what word program = what ++ codes ": " ++ word ++ see_help program
