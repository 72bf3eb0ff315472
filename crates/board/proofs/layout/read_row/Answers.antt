-- Each place is pushed in its turn.
use Rattle.std.proofs.Common.{◌≡◌, min, List, [], ◌∷◌, ◌++◌, map, get_or, sym, ap, ◌∙◌, arith}
use Rattle.std.specs.List.{range_with_len}
use Rattle.std.proofs.lemmas.List.FromFn.{map-range_with_len_more}
use Rattle.board.specs.Layout.{place, row_in}
use Rattle.board.specs.declared.row.Waiting.{Waiting}
use Rattle.board.proofs.layout.read_row.Goals as goal

pub loop-i-preserved : goal.loop-i-preserved
loop-i-preserved c =
    let f = place c.args.words.now in (
      c.push.ensures.items
          ∙ ap (λ (ws : List Waiting). ws ++ f c.loop-i.i ∷ []) c.loop-i.invariant.0
          ∙ sym (map-range_with_len_more f 0 c.loop-i.i c.loop-i.i (omega arith)),
      omega arith,
    )

pub returns : goal.returns
unfolding row_in
returns c =
    let e : c.loop-i.i ≡ min (get_or c.args.words.now 32 0) 16 = omega arith in
    c.loop-i.invariant.0 ∙ ap (λ n. map (place c.args.words.now) (range_with_len 0 n)) e
