-- The shut definitions are the open ones, and the laws hold of what is given.
use Rattle.encode.proofs.Fits.{exact}
use Rattle.encode.specs.Encode.{encode, misfit}
use Rattle.encode.proofs.encoding.encoded.Goals as goal

pub returns : goal.returns
unfolding encode misfit
returns c = record { value = c.by_format.ensures; exact = exact c.args.instruction c.by_format.result c.by_format.ensures }
