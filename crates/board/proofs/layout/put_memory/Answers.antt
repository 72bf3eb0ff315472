-- The slice that is written is memory's part, and no other.
use Rattle.std.proofs.Common.{◌≡◌, ◌-◌, ◌*◌, arith}
use Rattle.board.proofs.Places.{memory_written}
use Rattle.board.proofs.layout.put_memory.Goals as goal

pub returns : goal.returns
returns c =
    let n = c.args.lines in
    let k : 8 * n - 0 ≡ 8 * n = omega arith in
    let w = memory_written n c.args.number (8 * n - 0) c.args.board.now c.put_at.new.words c.args.words (omega arith) k (omega arith) (omega arith) c.put_at.ensures in
    (w.0, (w.1, w.2))
