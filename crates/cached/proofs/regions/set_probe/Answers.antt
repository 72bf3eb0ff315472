-- One region is written, and the others stay.
use Rattle.std.proofs.Common.{ap, ◌∙◌, arith}
use Rattle.words.specs.Parts.{part, table}
use Rattle.words.proofs.Tables.{within_written}
use Rattle.link.specs.Messages.{unasked}
use Rattle.link.specs.Words.{probe_in, probe_of}
use Rattle.cached.specs.Layout.{state_of, with_asked}
use Rattle.cached.proofs.Written.{wrote}
use Rattle.cached.proofs.regions.set_probe.Goals as goal

pub returns : goal.returns
unfolding part state_of
returns c =
    let w = c.args.chip.now in
    let v = c.put_at.new.words in
    wrote 6 w v (omega arith) (omega arith) (omega arith)
    ∙ ap (with_asked (state_of w)) (within_written 4 unasked (table 3 (λ k b. probe_of k (probe_in b)) (part 205 12 w)) (table 3 (λ k b. probe_of k (probe_in b)) v) c.args.k (probe_of c.args.k c.args.probe) (omega arith) c.put_at.ensures)
