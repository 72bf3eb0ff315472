-- It is read from one region.
use Rattle.std.proofs.Common.{◌∙◌, arith}
use Rattle.words.specs.Parts.{part, table}
use Rattle.words.proofs.Tables.{within_read}
use Rattle.link.specs.Messages.{unasked}
use Rattle.link.specs.Words.{probe_in, probe_of}
use Rattle.cached.specs.Layout.{state_of}
use Rattle.cached.proofs.regions.probe.Goals as goal

pub returns : goal.returns
unfolding part state_of
returns c = c.at.ensures ∙ within_read 4 unasked (table 3 (λ k b. probe_of k (probe_in b)) (part 205 12 c.args.chip.now)) c.args.k (omega arith)
