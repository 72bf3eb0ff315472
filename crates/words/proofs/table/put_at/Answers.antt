-- The slice that is written is the place, and no other.
use Rattle.std.proofs.Common.{arith}
use Rattle.words.proofs.Tables.{place_written, width}
use Rattle.words.proofs.table.put_at.Goals as goal

pub returns : goal.returns
returns g c =
    let T = g.T.Table in
    let w = width _ _ T.SIZE c.SIZE-2.ensures in
    place_written T.SIZE T.said c.args.words.now c.args.k c.SIZE.result _ c.write.new.block _ c.SIZE.ensures w (omega (arith, w)) (omega arith) (c.write.ensures c.args.k)
