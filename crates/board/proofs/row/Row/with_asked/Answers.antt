-- Nothing is asked for, or one more waits.
use Rattle.std.proofs.Common.{◌≡◌, [], ◌∷◌, ◌++◌, rules, sym, ap, map, ◌∙◌, append-nil}
use Rattle.std.proofs.lemmas.List.{map_push}
use Rattle.cores.specs.Board.{asked}
use Rattle.board.specs.Rows.{items_of, pair_in}
use Rattle.board.proofs.row.Row.with_asked.Goals as goal
use Rattle.board.proofs.row.Row.with_asked.Goals.{in-Some+in_ok-map_err, in_default}

pub returns-clause-timed : goal.returns-clause-timed
unfolding asked
returns-clause-timed c = elim c.match-asks.branch [
  | in-Some+in_ok-map_err w ↦
      let e : w.try_push.new.self.items ≡ c.args.self.waiting.items ++ record { line = w.in-Some.line; left = c.args.left } ∷ [] = search rules in
      rw (w.self-is, w.in-Some.is) (ap (map pair_in) e ∙ map_push pair_in c.args.self.waiting.items _)
  | in_default w ↦ rw (w.self-is, w.in_default.is) (sym (append-nil (map pair_in (items_of c.args.self))))
]
