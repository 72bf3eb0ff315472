-- The bytes of the words written so far stand between the front and those not written yet.
use Rattle.std.proofs.Common.{◌≡◌, ◌+◌, ◌*◌, ◌++◌, take, drop}
use Rattle.image.specs.Memory.{bytes_of}
use Rattle.image.proofs.write.write_words.Given as goal

-- what is written and what is left to write are the front and all words' bytes, and what lies past is as it was
abbrev pub invariant-loop-i : goal.invariant-loop-i
invariant-loop-i l =
    (take (9 + 4 * l.i) l.bytes ++ bytes_of (drop l.i l.memory) ≡ take 9 l.initial.bytes ++ bytes_of l.memory)
    × (drop (9 + 4 * l.i) l.bytes ≡ drop (9 + 4 * l.i) l.initial.bytes)
