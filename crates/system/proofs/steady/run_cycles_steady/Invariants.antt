use Rattle.std.proofs.Common.{◌≡◌, ℕ, ◌<◌, false}
use Rattle.board.specs.Layout.{memory_of}
use Rattle.system.specs.Steady.{RanSteady, after_steady}
use Rattle.system.proofs.steady.run_cycles_steady.Given as goal

-- so many cycles are done, and after none of them before had every core stopped
abbrev pub invariant-loop-done : goal.invariant-loop-done
invariant-loop-done g l =
    let m = memory_of l.header.lines l.initial.board in
    RanSteady g.C.LentChip.lent l.header.cores l.header.lines m l.late l.done l.chip l.board (g.L.Listener.heard l.initial.listener) (g.L.Listener.heard l.listener)
    × ((j : ℕ) → j < l.done → g.C.LentChip.lent.off (after_steady g.C.LentChip.lent l.header.cores m l.late j).chip ≡ false)
