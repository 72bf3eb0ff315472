-- The laws of choices.
use Rattle.image.proofs.Sound.{all_written, only_written, first_fault}
use Rattle.image.proofs.Bits.{others_down}
use Rattle.image.proofs.laws.choice_laws.Goals as goal

pub returns : goal.returns
returns c = record { all = all_written; only = only_written; others = others_down; first = first_fault }
