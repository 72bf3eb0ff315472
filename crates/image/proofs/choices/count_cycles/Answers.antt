-- What the scan counts is how many cycles there are.
use Rattle.std.proofs.Common.{◌∙◌}
use Rattle.image.proofs.Sound.{scan_counts, scan_cases}
use Rattle.image.proofs.choices.count_cycles.Goals as goal

pub returns : goal.returns
returns c = record { value = c.scan.ensures ∙ scan_counts _ _; cases = scan_cases _ _ _ c.scan.ensures }
