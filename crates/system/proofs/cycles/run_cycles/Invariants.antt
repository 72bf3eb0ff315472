use Rattle.std.proofs.Common.{◌-◌, ◌≤◌, length}
use Rattle.board.specs.Layout.{memory_of}
use Rattle.system.proofs.Runs.{SoFar}
use Rattle.system.proofs.cycles.run_cycles.Given as goal

-- so many cycles are done, up to this place
abbrev pub invariant-loop-record : goal.invariant-loop-record
invariant-loop-record g l =
    SoFar g.C.LentChip.lent l.header (memory_of l.header.lines l.initial.board) l.choices l.at l.done l.chip l.board (g.L.Listener.heard l.initial.listener) (g.L.Listener.heard l.listener)
    × (l.done ≤ l.at) × (l.at ≤ length l.choices)

abbrev pub decreases-loop-record : goal.decreases-loop-record
decreases-loop-record g l = length l.choices - l.at
