-- The reader has come as far as the bytes passed so far bring it.
use Rattle.std.proofs.Common.{◌≡◌, drop}
use Rattle.image.specs.Choices.{reading, scan}
use Rattle.image.specs.declared.choices.Expected.TheVariants.{Raised}
use Rattle.image.proofs.choices.scan.Given as goal

-- what is left gives what the whole gives
abbrev pub invariant-loop-at : goal.invariant-loop-at
invariant-loop-at l = scan l.cores l.reader l.at (drop l.at l.bytes) ≡ scan l.cores (reading Raised 0) 0 l.bytes
