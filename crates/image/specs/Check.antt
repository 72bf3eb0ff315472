-- What is tested before any cycle: the memory, then the choices, then the lent slices.
-- Assumes nothing: these are definitions.
use Rattle.std.specs.Prelude.{◌≡◌, ℕ, ◌+◌, ◌*◌, ◌≤◌, cond, List, Ok, Err, Result, nat_lt}
use Rattle.image.specs.Refusals.{then}
use Rattle.image.specs.Memory.{header_of, Fits}
use Rattle.image.specs.Choices.{choices_of, cycles_of}
use Rattle.image.specs.declared.memory.Header.{Header}
use Rattle.image.specs.declared.refusal.LentSlice.TheVariants.{Board, Chip, Said}
use Rattle.image.specs.declared.refusal.Refusal.{Refusal}
use Rattle.image.specs.declared.refusal.Refusal.TheVariants.{Lent}

-- the lent slices, by how many words they have: the board's has eight for a line and 1,024 more, the chip's 16,384, that for what is said 16
abbrev pub lent_of : Header → ℕ → ℕ → ℕ → Result Header Refusal
lent_of h board chip said =
    cond (nat_lt board (8 * h.lines + 1024)) (Err (Lent Board))
    (cond (nat_lt chip 16384) (Err (Lent Chip))
    (cond (nat_lt said 16) (Err (Lent Said))
    (Ok h)))

-- all tests, in their order
abbrev pub check_rule : List ℕ → List ℕ → ℕ → ℕ → ℕ → Result Header Refusal
check_rule memory choices board chip said = then (header_of memory) (λ h. then (choices_of h.cores choices) (λ cs. lent_of h board chip said))

-- the same, shut: other crates need not look inside
unfoldable pub check_of : List ℕ → List ℕ → ℕ → ℕ → ℕ → Result Header Refusal
check_of memory choices board chip said = check_rule memory choices board chip said

-- what is known where nothing is refused
pub record Accepted (memory choices : List ℕ) (board chip said : ℕ) (h : Header) : Type 0 where
  pub header : header_of memory ≡ Ok h
  pub fits : Fits memory h
  pub cycles : choices_of h.cores choices ≡ Ok (cycles_of choices)
  pub board_lent : 8 * h.lines + 1024 ≤ board
  pub chip_lent : 16384 ≤ chip
  pub said_lent : 16 ≤ said
