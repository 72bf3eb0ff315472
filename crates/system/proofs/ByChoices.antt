-- A run on the steady board is a run by choices: in each cycle those that give the lines whose time has come.
use Rattle.std.proofs.Common.{◌≡◌, ℕ, zero, suc, ◌+◌, Bool, List, [], ◌∷◌, ◌++◌, length, sym, refl, ap, ◌∙◌, append_assoc, add-zero, add-suc, arith, length-append}
use Rattle.cores.specs.Board.{Board, Chip, Choice, Out, Steady, asked, board_after, cycles, due, kept, later, powered, steady, steady_cycle, steady_start, with_lines}
use Rattle.cores.specs.Owed.{board_of, cycled, lines, next_board}
use Rattle.cores.proofs.Basics.{append_nil}
use Rattle.cores.proofs.Runs.{powered_append}
use Rattle.cores.proofs.Steady.{asked_lines, choice_of, due_handed, later_kept, lines_append, zeros}

-- a chip on a board
abbrev Both : Chip → Type 0
Both C = C.State × Board

-- one cycle of the steady board is one cycle with that choice
module _ (C : Chip) (up : ℕ → Bool) (late : ℕ → ℕ) (s : Steady C) where
  abbrev ws : List (ℕ × ℕ)
  ws = s.waiting

  abbrev r : C.State × Out
  r = C.cycle s.chip (due s.memory ws) up

  same_cycle : cycled C s.chip (board_of C s) (choice_of C up s) ≡ r
  same_cycle = ap (λ (xs : List (ℕ × List ℕ)). C.cycle s.chip xs up) (due_handed s.memory 0 ws)

  same_row : kept (zeros 0 ws) 0 (lines ws) ++ (cycled C s.chip (board_of C s) (choice_of C up s)).1.asks ≡ lines (later ws ++ asked late r.1.asks)
  same_row = ap (λ (x : C.State × Out). kept (zeros 0 ws) 0 (lines ws) ++ x.1.asks) same_cycle ∙ ap (λ (x : List ℕ). x ++ r.1.asks) (later_kept 0 ws)
      ∙ ap (λ (x : List ℕ). lines (later ws) ++ x) (sym (asked_lines late r.1.asks)) ∙ sym (lines_append (later ws) (asked late r.1.asks))

  abbrev by_choice : Both C
  by_choice = ((cycled C s.chip (board_of C s) (choice_of C up s)).0, next_board C s.chip (board_of C s) (choice_of C up s))

  abbrev by_time : Both C
  by_time = ((steady_cycle C up late s).chip, board_of C (steady_cycle C up late s))

  cycle_chosen : by_choice ≡ by_time
  unfolding steady_cycle board_after
  cycle_chosen = λ i. (
    (same_cycle i).0,
    record { memory = with_lines s.memory (same_cycle i).1.writes; waiting = same_row i; said = s.said ++ (same_cycle i).1.says; did = s.did ++ (same_cycle i).1.did },
  )

module _ (C : Chip) (n : ℕ) (m : List (List ℕ)) (up : ℕ → ℕ → Bool) (late : ℕ → ℕ → ℕ) where
  abbrev run : ℕ → Steady C
  run k = steady C up late k (steady_start C n m)

  -- the choice of cycle k, and those of the first k cycles
  abbrev pub chosen_at : ℕ → Choice
  chosen_at k = choice_of C (up k) (run k)

  unfoldable pub chosen : ℕ → List Choice
  chosen zero = []
  chosen (suc k) = chosen k ++ chosen_at k ∷ []

  pub by_choices : (k : ℕ) → powered C n m (chosen k) ≡ ((run k).chip, board_of C (run k))
  unfolding steady steady_start powered cycles chosen lines
  by_choices zero = refl
  by_choices (suc k) =
      powered_append C n m (chosen k) (chosen_at k ∷ []) ∙ ap (λ (x : Both C). cycles C x.0 x.1 (chosen_at k ∷ [])) (by_choices k) ∙ cycle_chosen C (up k) (late k) (run k)

  -- more cycles are more choices
  pub chosen_more : (k j : ℕ) → (ds : List Choice) × (length ds ≡ j) × (chosen (k + j) ≡ chosen k ++ ds)
  unfolding chosen
  chosen_more k zero = ([], refl, ap chosen (add-zero k) ∙ sym (append_nil (chosen k)))
  chosen_more k (suc j) =
      let z = chosen_more k j in (
        z.0 ++ chosen_at (k + j) ∷ [],
        length-append z.0 (chosen_at (k + j) ∷ []) ∙ omega (arith, z.1),
        ap chosen (add-suc k j) ∙ ap (λ (l : List Choice). l ++ chosen_at (k + j) ∷ []) z.2 ∙ append_assoc (chosen k) z.0 (chosen_at (k + j) ∷ []),
      )
