-- Memory and the row after the cycle are those of the board after it.
use Rattle.board.proofs.Follows.{followed}
use Rattle.board.proofs.after.Goals as goal

pub returns : goal.returns
returns c =
    let done = c.finish_given.ensures in
    record {
      fault = done.fault;
      after = followed c.finish_given.result c.args.lines c.args.board.now c.args.places.now c.args.out.now c.finish_given.new.board done.memory done.waiting;
      same = done.same;
      rest = done.rest;
    }
