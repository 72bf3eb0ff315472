-- The front and then the words.
use Rattle.image.proofs.Writes.{image_written}
use Rattle.image.proofs.write.store.Goals as goal

pub returns-clause-after : goal.returns-clause-after
returns-clause-after c = image_written _ _ _ _ _ c.args.bytes.now _ _ c.in_ok-length.ensures.fits.takes c.in_ok-length.ensures.front c.write_words.ensures
