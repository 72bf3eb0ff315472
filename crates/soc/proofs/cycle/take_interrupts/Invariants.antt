-- So far the first cores have taken theirs, and the places of the others are empty.
use Rattle.std.proofs.Common.{◌≡◌, false, length, get_or}
use Rattle.cores.specs.Loop.{each}
use Rattle.cores.specs.Ports.{event_of, somes}
use Rattle.soc.specs.Layout.{state_of}
use Rattle.soc.specs.Rv.{rv}
use Rattle.soc.specs.Soc.{take_interrupt}
use Rattle.soc.specs.Turn.{EmptyFrom, only_did}
use Rattle.soc.proofs.cycle.take_interrupts.Given as goal

abbrev pub invariant-loop-k : goal.invariant-loop-k
invariant-loop-k l =
    (length l.did ≡ 8) × EmptyFrom l.k l.did
    × (state_of l.chip ≡ (each (take_interrupt rv (λ j. get_or l.up j false)) l.k (state_of l.initial.chip)).0)
    × (only_did (somes event_of l.did) ≡ (each (take_interrupt rv (λ j. get_or l.up j false)) l.k (state_of l.initial.chip)).1)
