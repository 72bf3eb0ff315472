use Rattle.std.proofs.Common.{◌+◌}
use Rattle.system.specs.Steady.{FromThere, RanSteady}
use Rattle.system.proofs.steady.go_on_steady.Given as goal

-- so many cycles more are done
abbrev pub invariant-loop : goal.invariant-loop
invariant-loop g l =
    FromThere g.C.LentChip.lent l.header.cores l.header.lines l.late l.initial.chip l.initial.board (g.L.Listener.heard l.initial.listener)
    (λ m k start. RanSteady g.C.LentChip.lent l.header.cores l.header.lines m l.late (k + l.counter) l.chip l.board start (g.L.Listener.heard l.listener))
