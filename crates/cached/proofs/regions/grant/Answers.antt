-- It is read from one region.
use Rattle.std.proofs.Common.{◌∙◌, arith}
use Rattle.words.specs.Parts.{part, table}
use Rattle.words.proofs.Tables.{within_read}
use Rattle.link.specs.Messages.{quiet}
use Rattle.link.specs.Words.{grant_in}
use Rattle.cached.specs.Layout.{state_of}
use Rattle.cached.proofs.regions.grant.Goals as goal

pub returns : goal.returns
unfolding part state_of
returns c = c.at.ensures ∙ within_read 4 quiet (table 12 grant_in (part 157 48 c.args.chip.now)) c.args.k (omega arith)
