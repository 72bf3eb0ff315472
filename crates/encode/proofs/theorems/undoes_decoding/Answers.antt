-- The laws of encoding.
use Rattle.encode.proofs.Fits.{only_misfits_refused, words_fit}
use Rattle.encode.proofs.RoundTrip.{round_trip}
use Rattle.encode.proofs.theorems.undoes_decoding.Goals as goal

pub returns : goal.returns
returns c = (round_trip, (words_fit, only_misfits_refused))
