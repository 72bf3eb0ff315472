-- A cycle of the chip, then of the board, is a cycle of both.
use Rattle.std.proofs.Common.{◌≡◌, ℕ, List, [], Some, None, Option, Ok, Err, Result, MatchResult, IfOk, refl, ap, ◌∙◌, subst, arith}
use Rattle.std.specs.Result.{IsOk, result_err}
use Rattle.cores.specs.Board.{Choice, Out, board_after, handed}
use Rattle.cores.specs.Lent.{Lent}
use Rattle.cores.specs.Owed.{cycled}
use Rattle.cores.specs.Ports.{out_of}
use Rattle.cores.specs.declared.port.Out as port
use Rattle.board.specs.Cycle.{Follows}
use Rattle.board.specs.Layout.{board_of, memory_of, waiting_of}
use Rattle.system.specs.Cycle.{Next, PutsOut}

-- what refuses nothing is not refused
pub not_refused : {A E : Type 0} (r : Result A E) (f : Option E) → result_err r ≡ f → f ≡ None → IsOk r
not_refused (Ok x) f e n = refl
not_refused (Err y) f e n = absurd (none y (e ∙ n))
  where
    none : {E : Type 0} (y : E) → Some y ≡ None → ⊥
    none y z = grind (arith, z)

-- what a result is, where it is known to be one
pub ok_case : {A E : Type 0} (P : A → Type 0) (Q : E → Type 0) (r : Result A E) (x : A) → r ≡ Ok x → MatchResult r P Q → P x
ok_case P Q r x e h = subst (λ q. MatchResult q P Q) e h

pub ok_if : {A E : Type 0} (P : A → Type 0) (r : Result A E) (x : A) → r ≡ Ok x → IfOk r P → P x
ok_if P r x e h = subst (λ q. IfOk q P) e h

module _ (L : Lent) (n : ℕ) (chips board : List ℕ) (c : Choice) (o : port.Out) (words chips_after : List ℕ) (ls : List (ℕ × List ℕ))
    (e : (L.state_of chips_after, out_of o words) ≡ L.chip.cycle (L.state_of chips) ls c.raised) (f : ls ≡ handed (memory_of n board) c.given 0 (waiting_of n board)) where
  chip_cycled : (L.state_of chips_after, out_of o words) ≡ cycled L.chip (L.state_of chips) (board_of n board [] []) c
  chip_cycled = e ∙ ap (λ (x : List (ℕ × List ℕ)). L.chip.cycle (L.state_of chips) x c.raised) f

  pub puts_out : PutsOut L n chips board c o words
  puts_out = ap (λ (r : L.chip.State × Out). r.1) chip_cycled

  pub next_both : (board_then : List ℕ) → Follows n board c.given o board_then → Next L n chips board c o words chips_after board_then
  next_both board_then g said did =
      let z = g said did c words refl ∙ ap (λ (r : L.chip.State × Out). board_after (board_of n board said did) c r.1) chip_cycled in
      λ i. ((chip_cycled i).0, z i)
