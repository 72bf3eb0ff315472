-- The front and then the bytes.
use Rattle.std.proofs.Common.{◌≡◌, ◌/◌, length, drop, ap, ◌∙◌, arith}
use Rattle.image.specs.Memory.{image}
use Rattle.image.proofs.Writes.{image_written}
use Rattle.image.proofs.write.store_bytes.Goals as goal

pub returns-clause-after : goal.returns-clause-after
returns-clause-after c =
    let n = length c.args.memory.now in
    let lines : n / 4 / 8 ≡ n / 32 = omega arith in
    image_written _ _ _ _ _ c.args.bytes.now _ _ (omega (arith, c.in_ok-length.ensures.fits.takes))
    (c.in_ok-length.ensures.front ∙ ap (λ k. image c.args.cores k (drop 9 c.args.bytes.now)) lines) c.write_bytes.ensures
