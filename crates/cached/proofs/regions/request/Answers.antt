-- It is read from one region.
use Rattle.std.proofs.Common.{◌∙◌, arith}
use Rattle.words.specs.Parts.{part, table}
use Rattle.words.proofs.Tables.{within_read}
use Rattle.directory.specs.Directory.{idle}
use Rattle.directory.specs.Words.{request_in, request_of}
use Rattle.cached.specs.Layout.{state_of}
use Rattle.cached.proofs.regions.request.Goals as goal

pub returns : goal.returns
unfolding part state_of
returns c = c.at.ensures ∙ within_read 4 idle (table 5 (λ k b. request_of k (request_in b)) (part 217 20 c.args.chip.now)) c.args.k (omega arith)
