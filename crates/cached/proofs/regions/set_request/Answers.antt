-- One region is written, and the others stay.
use Rattle.std.proofs.Common.{ap, ◌∙◌, arith}
use Rattle.words.specs.Parts.{part, table}
use Rattle.words.proofs.Tables.{within_written}
use Rattle.directory.specs.Directory.{idle}
use Rattle.directory.specs.Words.{request_in, request_of}
use Rattle.cached.specs.Layout.{state_of, with_requests}
use Rattle.cached.proofs.Written.{wrote}
use Rattle.cached.proofs.regions.set_request.Goals as goal

pub returns : goal.returns
unfolding part state_of
returns c =
    let w = c.args.chip.now in
    let v = c.put_at.new.words in
    wrote 7 w v (omega arith) (omega arith) (omega arith)
    ∙ ap (with_requests (state_of w)) (within_written 4 idle (table 5 (λ k b. request_of k (request_in b)) (part 217 20 w)) (table 5 (λ k b. request_of k (request_in b)) v) c.args.k (request_of c.args.k c.args.request) (omega arith) c.put_at.ensures)
