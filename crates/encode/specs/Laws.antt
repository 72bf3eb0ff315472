-- Laws of encoding. Each is a statement whose proof is owed.
-- Assumes nothing.
use Rattle.std.specs.Prelude.{◌≡◌, ℕ, ◌^◌, ◌<◌, Some, None, Ok, Err, Result, ◌≢◌}
use Rattle.words.specs.Word.{field}
use Rattle.rv32.specs.Arithmetic.{bit}
use Rattle.rv32.specs.Decode.{decode}
use Rattle.rv32.specs.declared.instruction.AmoKind.{AmoKind}
use Rattle.rv32.specs.declared.instruction.Instruction.{Instruction}
use Rattle.rv32.specs.declared.instruction.Instruction.TheVariants.{Amo}
use Rattle.encode.specs.Encode.{encode, misfit}
use Rattle.encode.specs.declared.misfit.Misfit.{Misfit}
use Rattle.encode.specs.declared.order.Order.{Order}

-- an instruction that fits is what its word decodes to
abbrev pub RoundTrip : Type 0
RoundTrip = (i : Instruction) → misfit i ≡ None → (encode i < 2 ^ 32) × (decode (encode i) ≡ i)

-- what every word decodes to fits, so an instruction that does not fit is no word's
abbrev pub WordsFit : Type 0
WordsFit = (w : ℕ) → misfit (decode w) ≡ None

abbrev pub OnlyMisfitsRefused : Type 0
OnlyMisfitsRefused = (i : Instruction) (m : Misfit) → misfit i ≡ Some m → (w : ℕ) → decode w ≢ i

-- together: a word is given exactly for an instruction that is some word's, and it is such a word
abbrev pub Exact : Instruction → Result ℕ Misfit → Type 0
Exact i (Ok w) = decode w ≡ i
Exact i (Err m) = (w : ℕ) → decode w ≢ i

-- a word with marks has them in their bits
abbrev pub Marked : Order → ℕ → Type 0
Marked order w = (field w 26 1 ≡ bit order.acquire) × (field w 25 1 ≡ bit order.release)

-- and an atomic operation's word still decodes to it
abbrev pub SameAmo : ℕ → ℕ → Type 0
SameAmo v w = (kind : AmoKind) (d s t : ℕ) → decode v ≡ Amo kind d s t → decode w ≡ Amo kind d s t
