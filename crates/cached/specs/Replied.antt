-- What a core replies to a probe, over the values that the code has.
-- Assumes nothing: these are definitions.
use Rattle.std.specs.Prelude.{ℕ, ◌+◌, ◌*◌}
use Rattle.cores.specs.Loop.{Step, silent}
use Rattle.cores.specs.Machines.{pick}
use Rattle.cache.specs.Slots.{has}
use Rattle.link.specs.declared.probe.Probe.{Probe}
use Rattle.cached.specs.Puts.{lets_go_of}
use Rattle.cached.specs.Rv.{rv}
use Rattle.cached.specs.Soc.{State}

-- core k lets go of the line, if it still has it there
abbrev pub replies : ℕ → Probe → Step (State rv)
replies k p c = pick (has (c.lines.slot (64 * k + p.slot)) p.line) (lets_go_of k p c) (c, silent)
