-- The power that is compared with is the highest bit, and what is taken away twice is twice that.
use Rattle.std.proofs.Common.{◌≡◌, ◌-◌, ◌%◌, ◌^◌, ◌<◌, ◌≤◌, sym, ◌∙◌, arith, pow_mono}
use Rattle.std.proofs.lemmas.Nat.{mod_below, pow_pos}
use Rattle.words.proofs.Fields.{double_power, extend_high, extend_low, extend_word, low_field, power_below}
use Rattle.words.proofs.word.sign_extended.Goals as goal

pub returns-then-size-ge32 : goal.returns-then-size-ge32
returns-then-size-ge32 c = extend_word _ _ c.ranges.x.fits c.if-size-ge32.true

pub returns-then-low-half : goal.returns-then-low-half
returns-then-low-half c =
    let low : c.bits-low.result ≡ c.args.x % 2 ^ c.args.size = c.bits-low.ensures ∙ low_field c.args.x c.args.size in
    let below : c.args.x % 2 ^ c.args.size < 2 ^ (c.args.size - 1)
    = omega (arith, power_below c.args.size (omega arith) (omega arith)) in
    low ∙ sym (extend_low c.args.size c.args.x below)

pub returns-else-low-half : goal.returns-else-low-half
returns-else-low-half c =
    let low : c.bits-low.result ≡ c.args.x % 2 ^ c.args.size = c.bits-low.ensures ∙ low_field c.args.x c.args.size in
    let half = power_below c.args.size (omega arith) (omega arith) in
    let above : 2 ^ (c.args.size - 1) ≤ c.args.x % 2 ^ c.args.size = omega arith in
    omega (
      arith,
      extend_high c.args.size c.args.x above,
      double_power c.args.size (omega arith),
      mod_below c.args.x (2 ^ c.args.size) (pow_pos c.args.size),
      pow_mono {i = c.args.size} {j = 31} (omega arith),
    )
