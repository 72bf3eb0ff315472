-- The two line buffers: what they hold, which words are read from them, and which line is lacked.
-- Assumes nothing: these are definitions.
use Rattle.std.specs.Prelude.{ℕ, ◌/◌, ◌%◌, Bool, false, List, replicate, Some, None, Option, ◌==◌, slice_index}
use Rattle.cores.specs.Machines.{pick}
use Rattle.cores.specs.declared.port.Line.{Line}

-- whether a buffer holds line a
abbrev pub holds : Option Line → ℕ → Bool
holds None a = false
holds (Some l) a = l.number == a

-- its words; an empty one has zeros
abbrev pub words_of : Option Line → List ℕ
words_of None = replicate 8 0
words_of (Some l) = l.words

-- the words of line a as the two buffers have them: from the first if it holds the line, else from the second
abbrev pub line_in : Option Line → Option Line → ℕ → List ℕ
line_in fetched loaded a = pick (holds fetched a) (words_of fetched) (words_of loaded)

-- and word number x
abbrev pub word_in : Option Line → Option Line → ℕ → ℕ
word_in fetched loaded x = slice_index (line_in fetched loaded (x / 8)) (x % 8)

-- whether a word that is named lies in line a
abbrev pub lies_in : Option ℕ → ℕ → Bool
lies_in None a = false
lies_in (Some x) a = x / 8 == a

-- the line that is lacked of the instruction's own word, which is read from the first buffer only
abbrev pub lacks_code : Option ℕ → Option Line → Option ℕ
lacks_code None fetched = None
lacks_code (Some x) fetched = pick (holds fetched (x / 8)) None (Some (x / 8))

-- and of its data, which may be in either
abbrev pub lacks_data : Option ℕ → Option Line → Option Line → Option ℕ
lacks_data None fetched loaded = None
lacks_data (Some x) fetched loaded = pick (holds fetched (x / 8)) None (pick (holds loaded (x / 8)) None (Some (x / 8)))

-- the first of two, if there is one, else the second
abbrev pub first : Option ℕ → Option ℕ → Option ℕ
first None b = b
first (Some a) b = Some a
