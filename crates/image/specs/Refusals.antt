-- The number and the place of each refusal, and steps that may be refused.
-- Assumes nothing: these are definitions.
use Rattle.std.specs.Prelude.{ℕ, List, ◌++◌, Ok, Err, codes, Result}
use Rattle.std.specs.Fmt.{decimal}
use Rattle.image.specs.declared.refusal.LentSlice.{LentSlice}
use Rattle.image.specs.declared.refusal.LentSlice.TheVariants.{Board, Chip, Said}
use Rattle.image.specs.declared.refusal.Refusal.{Refusal}
use Rattle.image.specs.declared.refusal.Refusal.TheVariants.{MemoryEnds, MemoryGoesOn, NoMagic, Cores, Lines, Choices, Lent}

-- 1: the memory's length is wrong; 2: what it begins with; 3: the choices; 4: a lent slice is too short
abbrev pub number : Refusal → ℕ
number (MemoryEnds length) = 1
number (MemoryGoesOn at) = 1
number NoMagic = 2
number Cores = 2
number Lines = 2
number (Choices fault at) = 3
number (Lent slice) = 4

-- which of the lent slices
abbrev pub slice_place : LentSlice → ℕ
slice_place Board = 0
slice_place Chip = 1
slice_place Said = 2

-- the first byte in fault, where a byte that is missing stands at the length
abbrev pub place : Refusal → ℕ
place (MemoryEnds length) = length
place (MemoryGoesOn at) = at
place NoMagic = 0
place Cores = 4
place Lines = 5
place (Choices fault at) = at
place (Lent slice) = slice_place slice

-- how it is printed
abbrev pub text : Refusal → List ℕ
text r = codes "refused " ++ decimal (number r) ++ codes " at " ++ decimal (place r)

-- a step that may be refused, and then another
abbrev pub then : {A B : Type 0} → Result A Refusal → (A → Result B Refusal) → Result B Refusal
then (Ok a) f = f a
then (Err e) f = Err e
