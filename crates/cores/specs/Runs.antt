-- One run of the toy chip, with what it puts out.
-- Assumes nothing: these are definitions.
use Rattle.std.specs.Prelude.{◌≡◌, ℕ, true, false, List, [], ◌∷◌}
use Rattle.cores.specs.Machines.{step, interrupt}
use Rattle.cores.specs.Board.{Choice}
use Rattle.cores.specs.Promise.{board}
use Rattle.cores.specs.Toy.{toy_chip}

-- one line: say your place; store 3 in your place; stop. Core 0 begins at the first word, core 1 at the second
abbrev pub program : List (List ℕ)
program = (1 ∷ 2 ∷ 0 ∷ 0 ∷ 0 ∷ 0 ∷ 0 ∷ 0 ∷ []) ∷ []

-- nothing is given; what waits is given; the same with the interrupt lines up
abbrev pub nothing : Choice
nothing = record { given = []; raised = λ k. false }

abbrev pub gives_line : Choice
gives_line = record { given = 0 ∷ []; raised = λ k. false }

abbrev pub raises : Choice
raises = record { given = 0 ∷ []; raised = λ k. true }

-- it asks in the first cycle and then waits; and after twelve cycles one core has said a word, the other has stored one, both have taken an
-- interrupt and stopped, and the store is in memory
pub record ToyRuns : Type 0 where
  pub asks : board toy_chip 2 program (nothing ∷ nothing ∷ []) ≡ record { memory = program; waiting = 0 ∷ []; said = []; did = [] }
  pub ends :
      board toy_chip 2 program (nothing ∷ nothing ∷ gives_line ∷ raises ∷ gives_line ∷ nothing ∷ nothing ∷ gives_line ∷ nothing ∷ gives_line ∷ nothing ∷ gives_line ∷ [])
      ≡ record {
        memory = (1 ∷ 3 ∷ 0 ∷ 0 ∷ 0 ∷ 0 ∷ 0 ∷ 0 ∷ []) ∷ [];
        waiting = [];
        said = (0, 0) ∷ [];
        did = step 0 ∷ interrupt 0 ∷ interrupt 1 ∷ step 1 ∷ step 0 ∷ step 1 ∷ step 0 ∷ [];
      }
