-- Programs run on the chip, with what is said.
-- Assumes nothing: these are definitions.
use Rattle.std.specs.Prelude.{◌≡◌, ℕ, zero, suc, Bool, true, false, List, [], ◌∷◌, map}
use Rattle.cores.specs.Machines.{word}
use Rattle.cores.specs.Board.{Choice}
use Rattle.cores.specs.Promise.{board}
use Rattle.cores.specs.Programs.{image, program_a, program_c, program_d, program_e, program_g}
use Rattle.cached.specs.Rv.{rv}
use Rattle.cached.specs.Soc.{chip}

-- the first line that waits is given in each of so many cycles, with all interrupt lines up or down
abbrev pub giving : Bool → ℕ → List Choice
giving up zero = []
giving up (suc n) = record { given = 0 ∷ []; raised = λ k. up } ∷ giving up n

-- the same, but each line comes a cycle later
abbrev pub slowly : ℕ → List Choice
slowly zero = []
slowly (suc n) = record { given = []; raised = λ k. false } ∷ record { given = 0 ∷ []; raised = λ k. false } ∷ slowly n

-- a program from address 0, how many cores run it, the choices of the outside, and what is said (core and word)
pub record Run : Type 0 where
  pub words : List ℕ
  pub cores : ℕ
  pub choices : List Choice
  pub said : List (ℕ × ℕ)

-- the runs: one that is cut short, and each program to its end
abbrev pub table : List Run
table =
    record { words = program_a; cores = 1; choices = giving false 3; said = [] }
    ∷ record { words = program_a; cores = 1; choices = giving false 5; said = (0, 7) ∷ [] }
    ∷ record { words = program_a; cores = 1; choices = slowly 4; said = (0, 7) ∷ [] }
    ∷ record { words = program_c; cores = 1; choices = giving false 12; said = (0, 9) ∷ [] }
    ∷ record { words = program_d; cores = 4; choices = giving false 24; said = (0, 0) ∷ (1, 1) ∷ (2, 2) ∷ (3, 3) ∷ [] }
    ∷ record { words = program_e; cores = 2; choices = giving false 30; said = (0, 0) ∷ (1, 1) ∷ [] }
    ∷ record { words = program_g; cores = 1; choices = giving true 14; said = (0, 12) ∷ [] }
    ∷ []

-- what is said on the board in a run, with a memory of so many lines
abbrev pub says_by : ℕ → Run → List (ℕ × ℕ)
says_by lines r = (board (chip rv) r.cores (image lines r.words) r.choices).said

-- every run says what stands beside it
abbrev pub Say : ℕ → List Run → Type 0
Say lines runs = map (says_by lines) runs ≡ map (λ r. r.said) runs

-- a stored word goes to memory late: memory has the old one when it is said, and the new one once the core has stopped and handed back all its slots
pub record WritesBack : Type 0 where
  pub old : word (board (chip rv) 1 (image 8 program_c) (giving false 12)).memory 32 ≡ 0
  pub new : word (board (chip rv) 1 (image 8 program_c) (giving false 80)).memory 32 ≡ 9
