-- The bytes after the front are the words.
use Rattle.std.proofs.Common.{rules}
use Rattle.image.proofs.Words.{words_of_memory}
use Rattle.image.proofs.memory.load.Goals as goal

pub returns : goal.returns
returns c =
    record {
      value = search rules;
      after = words_of_memory c.args.bytes.now _ _ _ c.in_ok-header.ensures.fits.long c.read_words.ensures;
    }
