-- So far the first cores are new, and on or off.
use Rattle.std.proofs.Common.{◌≡◌, ℕ, ◌<◌, ltb}
use Rattle.rv32.specs.Execute.{start}
use Rattle.soc.specs.Layout.{state_of}
use Rattle.soc.proofs.cycle.begin.Given as goal

abbrev pub invariant-loop-k : goal.invariant-loop-k
invariant-loop-k l = (j : ℕ) → j < l.k → ((state_of l.chip).cpu j ≡ start j) × ((state_of l.chip).on j ≡ ltb j l.cores)
