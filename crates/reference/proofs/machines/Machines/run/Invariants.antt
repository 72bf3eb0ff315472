-- So far the first events are done, and there is room for what comes of the others.
use Rattle.std.proofs.Common.{◌+◌, ◌-◌, ◌≤◌, map, length, take, vec_items, vec_len, vec_capacity}
use Rattle.cores.specs.Ports.{event_of}
use Rattle.reference.specs.Read.{AllPerformed}
use Rattle.reference.proofs.machines.Machines.run.Given as goal

abbrev pub invariant-loop-event : goal.invariant-loop-event
invariant-loop-event l =
    AllPerformed (map event_of (take l.event-index l.events)) l.initial.self l.initial.memory (vec_items l.initial.outcomes) l.self l.memory (vec_items l.outcomes)
    × (vec_len l.outcomes + (length l.events - l.event-index) ≤ vec_capacity l.outcomes)
