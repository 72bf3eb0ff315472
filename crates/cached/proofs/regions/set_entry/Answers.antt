-- One region is written, and the others stay.
use Rattle.std.proofs.Common.{◌+◌, ◌*◌, ap, ◌∙◌, arith}
use Rattle.words.specs.Parts.{part, table}
use Rattle.words.proofs.Tables.{within_written}
use Rattle.cores.specs.Put.{put}
use Rattle.directory.specs.Directory.{nobody}
use Rattle.directory.specs.Words.{entry_in, entry_of}
use Rattle.cached.specs.Layout.{state_of, with_entries}
use Rattle.cached.proofs.Written.{wrote}
use Rattle.cached.proofs.regions.set_entry.Goals as goal

pub returns : goal.returns
unfolding part state_of
returns c =
    let w = c.args.chip.now in
    let v = c.put_at.new.words in
    let k = c.args.k in
    wrote 8 w v (omega arith) (omega arith) (omega arith)
    ∙ ap (with_entries (state_of w))
    (within_written 256 nobody (table 2 (λ _ b. entry_of (entry_in b)) (part 237 512 w)) (table 2 (λ _ b. entry_of (entry_in b)) v) (64 * k + c.number.result) (entry_of c.args.entry) (omega arith) c.put_at.ensures
    ∙ ap (λ i. put (state_of w).lines.entry (64 * k + i) (entry_of c.args.entry)) c.number.ensures.value)
