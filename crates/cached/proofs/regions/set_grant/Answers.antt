-- One region is written, and the others stay.
use Rattle.std.proofs.Common.{ap, ◌∙◌, arith}
use Rattle.words.specs.Parts.{part, table}
use Rattle.words.proofs.Tables.{within_written}
use Rattle.link.specs.Messages.{quiet}
use Rattle.link.specs.Words.{grant_in, grant_of}
use Rattle.cached.specs.Layout.{state_of, with_grants}
use Rattle.cached.proofs.Written.{wrote}
use Rattle.cached.proofs.regions.set_grant.Goals as goal

pub returns : goal.returns
unfolding part state_of
returns c =
    let w = c.args.chip.now in
    let v = c.put_at.new.words in
    wrote 5 w v (omega arith) (omega arith) (omega arith)
    ∙ ap (with_grants (state_of w)) (within_written 4 quiet (table 12 grant_in (part 157 48 w)) (table 12 grant_in v) c.args.k (grant_of c.args.k c.args.grant) (omega arith) c.put_at.ensures)
