-- The slice that is read is the place.
use Rattle.std.proofs.Common.{◌∙◌}
use Rattle.words.proofs.Tables.{place_read, width}
use Rattle.words.proofs.table.at.Goals as goal

pub returns : goal.returns
returns g c =
    let T = g.T.Table in
    c.read.ensures c.args.k
    ∙ place_read T.SIZE T.said c.args.words.now c.args.k c.SIZE.result _ c.SIZE.ensures (width _ _ T.SIZE c.SIZE-2.ensures)
