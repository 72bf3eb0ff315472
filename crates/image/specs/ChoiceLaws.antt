-- What holds of choices as bytes: the format written out, and what it is to be the first byte in fault. Each law is a statement; its proof stands behind `choice_laws`.
-- Assumes nothing: these are definitions and statements.
use Rattle.std.specs.Prelude.{◌≡◌, ℕ, ◌+◌, ◌^◌, ◌<◌, ◌≤◌, false, List, [], ◌∷◌, ◌++◌, length, take, Ok, Err, Result}
use Rattle.image.specs.Choices.{Cycle, up, choices_of}
use Rattle.image.specs.Refusals.{number, place}
use Rattle.image.specs.declared.refusal.ChoiceFault.TheVariants.{CutShort}
use Rattle.image.specs.declared.refusal.Refusal.{Refusal}
use Rattle.image.specs.declared.refusal.Refusal.TheVariants.{Choices}

-- a cycle written out as bytes
abbrev pub written : Cycle → List ℕ
written c = c.raised ∷ length c.given ∷ c.given

-- cycles written out, one after the other
unfoldable pub written_out : List Cycle → List ℕ
written_out [] = []
written_out (c ∷ cs) = written c ++ written_out cs

-- places that rise strictly, the first at least so large
abbrev pub Rising : ℕ → List ℕ → Type 0
Rising least [] = Unit {0}
Rising least (p ∷ ps) = (least ≤ p) × Rising (p + 1) ps

-- no interrupt line from the number of cores on is up, and the places rise
abbrev pub Proper : ℕ → List Cycle → Type 0
Proper cores [] = Unit {0}
Proper cores (c ∷ cs) = (c.raised < 2 ^ cores) × Rising 0 c.given × Proper cores cs

-- cycles that are proper and not too many are taken as they were written
abbrev pub AllWrittenChoicesAreTaken : Type 0
AllWrittenChoicesAreTaken = (cores : ℕ) (cs : List Cycle) → Proper cores cs → length cs ≤ 4294967296 → choices_of cores (written_out cs) ≡ Ok cs

-- and nothing else is taken
abbrev pub OnlyWrittenChoicesAreTaken : Type 0
OnlyWrittenChoicesAreTaken =
    (cores : ℕ) (bytes : List ℕ) (cs : List Cycle) → choices_of cores bytes ≡ Ok cs → (bytes ≡ written_out cs) × Proper cores cs × (length cs ≤ 4294967296)

-- and then no core that is not there has its interrupt line up
abbrev pub OthersAreDown : Type 0
OthersAreDown = (cores raised k : ℕ) → raised < 2 ^ cores → cores ≤ k → up raised k ≡ false

-- nothing is wrong with so many bytes but that more may have to come
abbrev pub Unfinished : ℕ → Result (List Cycle) Refusal → Type 0
Unfinished n (Ok cs) = Unit {0}
Unfinished n (Err e) = e ≡ Choices CutShort n

-- a refusal's place is that of the first byte in fault: before it nothing is wrong, and with it all is refused alike, whatever follows
abbrev pub FaultIsFirst : Type 0
FaultIsFirst =
    (cores : ℕ) (bytes : List ℕ) (e : Refusal) → choices_of cores bytes ≡ Err e →
    (number e ≡ 3) × (place e ≤ length bytes)
    × ((n : ℕ) → n ≤ place e → Unfinished n (choices_of cores (take n bytes)))
    × ((more : List ℕ) → place e < length bytes → choices_of cores (take (place e + 1) bytes ++ more) ≡ Err e)
