-- The laws hold of the word that is given.
use Rattle.std.proofs.Common.{sym, subst}
use Rattle.encode.proofs.Marks.{marked, same_amo}
use Rattle.encode.specs.Laws.{Marked, SameAmo}
use Rattle.encode.proofs.order.ordered.Goals as goal

pub returns : goal.returns
returns c =
    let e = sym c.with_marks.ensures in
    record {
      value = c.with_marks.ensures;
      marked = subst (Marked c.args.order) e (marked c.args.word c.args.order);
      same = subst (SameAmo c.args.word) e (same_amo c.args.word c.args.order);
    }
