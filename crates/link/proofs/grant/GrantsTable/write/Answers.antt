-- What is written is read back.
use Rattle.std.proofs.Common.{sym, ap, ◌∙◌, arith}
use Rattle.link.specs.Words.{grant_of}
use Rattle.link.proofs.Rows.{grant_written}
use Rattle.link.proofs.grant.GrantsTable.write.Goals as goal

pub returns-in-Some : goal.returns-in-Some
returns-in-Some c k =
    grant_written c.args.block.now c.copy_from_slice.new.self c.write.new.block c.in-Some.field-0 k _ (omega arith) c.number.ensures.below (cc) c.copy_from_slice.ensures.after (omega arith) (cc (c.write.ensures 0))
    ∙ ap (grant_of k) (sym c.in-Some.is)
