-- Small programs, and what the machines say that run them.
-- Assumes nothing: these are definitions.
use Rattle.std.specs.Prelude.{◌≡◌, ℕ, zero, suc, List, [], ◌∷◌, ◌++◌, map, take, drop, replicate}
use Rattle.cores.specs.Machines.{Event, step, interrupt, begins, events}
use Rattle.cores.specs.Owed.{Allowed}
use Rattle.cores.specs.Rv32.{rv32}

-- words from address 0 in a memory of so many lines
abbrev pub image : ℕ → List ℕ → List (List ℕ)
image zero words = []
image (suc n) words = take 8 (words ++ replicate 8 0) ∷ image n (drop 8 words)

-- a program in a memory of eight lines, how many cores run it, what they do, and what they say (core and word)
pub record Run : Type 0 where
  pub words : List ℕ
  pub cores : ℕ
  pub does : List Event
  pub said : List (ℕ × ℕ)

-- so many instructions of core k
abbrev pub instructions : ℕ → ℕ → List Event
instructions k zero = []
instructions k (suc n) = step k ∷ instructions k n

-- says 7
abbrev pub program_a : List ℕ
program_a = 0x00700293 ∷ 0x40000337 ∷ 0x00532023 ∷ 0x00100073 ∷ []

-- says the sum of 1 to 10
abbrev pub program_b : List ℕ
program_b = 0x00000293 ∷ 0x00a00313 ∷ 0x006282b3 ∷ 0xfff30313 ∷ 0xfe031ce3 ∷ 0x400003b7 ∷ 0x0053a023 ∷ 0x00100073 ∷ []

-- stores 9, loads it, and says it
abbrev pub program_c : List ℕ
program_c = 0x00900293 ∷ 0x08502023 ∷ 0x08002303 ∷ 0x400003b7 ∷ 0x0063a023 ∷ 0x00100073 ∷ []

-- says its core's number
abbrev pub program_d : List ℕ
program_d = 0x400003b7 ∷ 0x00a3a023 ∷ 0x00100073 ∷ []

-- adds 1 to the word at 128 by AMOADD, and says what it was
abbrev pub program_e : List ℕ
program_e = 0x00100293 ∷ 0x08000313 ∷ 0x005323af ∷ 0x40000e37 ∷ 0x007e2023 ∷ 0x00100073 ∷ []

-- lets interrupts and waits in a loop at 12; from 0x40 on, says where the interrupt came from
abbrev pub program_g : List ℕ
program_g =
    0x00100293 ∷ 0x400003b7 ∷ 0x0053a223 ∷ 0x0000006f ∷ (replicate 12 0 ++ 0x0083a283 ∷ 0x0053a023 ∷ 0x00100073 ∷ [])

abbrev pub table : List Run
table =
    record { words = program_a; cores = 1; does = instructions 0 2; said = [] }
    ∷ record { words = program_a; cores = 1; does = instructions 0 3; said = (0, 7) ∷ [] }
    ∷ record { words = program_a; cores = 1; does = instructions 0 9; said = (0, 7) ∷ [] }
    ∷ record { words = program_b; cores = 1; does = instructions 0 33; said = [] }
    ∷ record { words = program_b; cores = 1; does = instructions 0 34; said = (0, 55) ∷ [] }
    ∷ record { words = program_c; cores = 1; does = instructions 0 4; said = [] }
    ∷ record { words = program_c; cores = 1; does = instructions 0 5; said = (0, 9) ∷ [] }
    ∷ record {
      words = program_d;
      cores = 4;
      does = instructions 3 2 ++ (instructions 1 2 ++ (instructions 0 2 ++ instructions 2 2));
      said = (3, 3) ∷ (1, 1) ∷ (0, 0) ∷ (2, 2) ∷ [];
    }
    ∷ record { words = program_e; cores = 2; does = instructions 0 3 ++ (instructions 1 5 ++ instructions 0 2); said = (1, 1) ∷ (0, 0) ∷ [] }
    ∷ record { words = program_g; cores = 1; does = instructions 0 3 ++ interrupt 0 ∷ instructions 0 2; said = (0, 12) ∷ [] }
    ∷ []

-- what the machines say that do what a run does
abbrev pub says_by : Run → List (ℕ × ℕ)
says_by r = (events rv32 (begins rv32 r.cores (image 8 r.words)) r.does).said

-- each interrupt of a run stands where it is let
abbrev pub LetBy : Run → Type 0
LetBy r = Allowed rv32 (begins rv32 r.cores (image 8 r.words)) r.does

abbrev pub AllLet : List Run → Type 0
AllLet [] = Unit {0}
AllLet (r ∷ rs) = LetBy r × AllLet rs

-- every run of the table says what stands beside it, with interrupts only where they are let
abbrev pub ProgramsSay : Type 0
ProgramsSay = (map says_by table ≡ map (λ r. r.said) table) × AllLet table
