-- The first j cores are asked, and nothing else has changed.
use Rattle.std.proofs.Common.{◌≡◌, ltb}
use Rattle.cores.specs.Machines.{pick}
use Rattle.directory.specs.Directory.{question}
use Rattle.cache.specs.Words.{is_write}
use Rattle.cached.specs.Layout.{state_of, with_asked}
use Rattle.cached.proofs.start.ask_holders.Given as goal

abbrev pub invariant-loop-j : goal.invariant-loop-j
invariant-loop-j l =
    state_of l.chip
    ≡ with_asked (state_of l.initial.chip) (λ i. pick (ltb i l.j) (question (state_of l.initial.chip).lines.entry l.line (is_write l.access) i) ((state_of l.initial.chip).hints.probe i))
