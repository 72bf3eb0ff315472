-- Each line is written in its turn.
use Rattle.std.proofs.Common.{refl, ◌∙◌}
use Rattle.std.specs.Option.{option_to_list}
use Rattle.std.proofs.lemmas.Iterator.{YieldsList-from_slice}
use Rattle.std.proofs.lemmas.Iterator.Adapters.{YieldsList-from_flatten}
use Rattle.std.proofs.lemmas.Iterator.Consumers.{YieldsList-at, YieldsList-end}
use Rattle.cores.specs.Board.{with_lines}
use Rattle.board.specs.Layout.{memory_of}
use Rattle.board.proofs.Writes.{all_written, of_place, one_more}
use Rattle.board.proofs.layout.write_lines.Goals as goal

pub loop-line-init : goal.loop-line-init
unfolding with_lines
loop-line-init c = (refl, refl, refl)

pub loop-line-preserved : goal.loop-line-preserved
loop-line-preserved c = (
  one_more (memory_of c.args.lines c.args.board.now) (λ y. y.now) c.loop-line.yielded c.in-Some.line _ _ c.loop-line.invariant.0 c.write_line.ensures.0,
  c.write_line.ensures.1.0 ∙ c.loop-line.invariant.1,
  c.write_line.ensures.1.1 ∙ c.loop-line.invariant.2,
)

pub returns : goal.returns
returns c =
    let all = YieldsList-end
    (YieldsList-at c.into_iter-line-iterator.ensures.into_iter_gives
    (YieldsList-from_flatten _ _ _ option_to_list (λ x j h. of_place j x.now h.0 h.1) (YieldsList-at c.flatten-line-items.ensures.source (YieldsList-from_slice c.args.writes.now cc)) c.flatten-line-items.ensures.front c.flatten-line-items.ensures.back c.flatten-line-items.ensures.done))
    c.loop-line.yielded _ c.loop-line.yielded_by c.next.result _ c.in-None.is c.next.ensures.steps in
    (all_written (memory_of c.args.lines c.args.board.now) (λ y. y.now) c.loop-line.yielded c.args.writes.now _ c.loop-line.invariant.0 all.0, (c.loop-line.invariant.1, c.loop-line.invariant.2))
