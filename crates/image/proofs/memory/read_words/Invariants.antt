-- The words read so far stand in front of those not written yet.
use Rattle.std.proofs.Common.{◌≡◌, ◌*◌, ◌++◌, take, drop}
use Rattle.image.specs.Memory.{words_of}
use Rattle.image.proofs.memory.read_words.Given as goal

-- what is read and what is left to read are all the words, and memory past them is as it was
abbrev pub invariant-loop-i : goal.invariant-loop-i
invariant-loop-i l = (take l.i l.memory ++ words_of (drop (4 * l.i) l.bytes) ≡ words_of l.bytes) × (drop l.i l.memory ≡ drop l.i l.initial.memory)
