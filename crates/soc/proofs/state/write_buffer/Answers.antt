-- What is written is read back.
use Rattle.std.proofs.Common.{sym, ◌∙◌, arith}
use Rattle.soc.proofs.Regions.{buffer_filled}
use Rattle.soc.proofs.state.write_buffer.Goals as goal

pub returns-in-Some : goal.returns-in-Some
returns-in-Some c =
    buffer_filled c.args.block.now c.copy_from_slice.new.self c.copy_from_slice-in-Some.new.self c.in-Some.line c.copy_from_slice.ensures.after c.copy_from_slice-in-Some.ensures.after (omega arith)
    ∙ sym c.in-Some.is
