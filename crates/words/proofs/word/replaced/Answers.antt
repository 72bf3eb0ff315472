-- What is taken out is no more than the word, and what is put in fits in its place.
use Rattle.std.proofs.Common.{arith}
use Rattle.words.proofs.Fields.{field_within, replace_fits, old_shifted, new_shifted}
use Rattle.words.proofs.word.replaced.Goals as goal

pub overflow_sub-result : goal.overflow_sub-result
overflow_sub-result c =
    omega (arith, field_within c.args.word c.args.low c.args.size, old_shifted c.args.word c.args.low c.args.size c.bits.result c.ranges.word.fits c.bits.ensures)

pub overflow_add-result : goal.overflow_add-result
overflow_add-result c =
    record {
      fits =
          omega (
            arith,
            replace_fits c.args.word c.args.low c.args.size c.args.x c.ranges.word.fits c.requires.0,
            old_shifted c.args.word c.args.low c.args.size c.bits.result c.ranges.word.fits c.bits.ensures,
            new_shifted c.args.low c.args.size c.args.x c.bits-2.result c.requires.0 c.bits-2.ensures,
          );
    }

pub returns : goal.returns
returns c =
    omega (
      arith,
      old_shifted c.args.word c.args.low c.args.size c.bits.result c.ranges.word.fits c.bits.ensures,
      new_shifted c.args.low c.args.size c.args.x c.bits-2.result c.requires.0 c.bits-2.ensures,
    )
