-- The ten words of the slot are a part of the twelve.
use Rattle.words.specs.Parts.{part}
use Rattle.link.proofs.Rows.{grant_read}
use Rattle.link.proofs.grant.GrantsTable.read.Goals as goal

pub returns : goal.returns
unfolding part
returns c k = grant_read c.args.block.now k c.from.result _ c.if-block-eq0.false c.from.ensures (c.read.ensures 0)
