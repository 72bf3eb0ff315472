-- Whether every core has stopped.
-- Assumes nothing: these are definitions.
use Rattle.std.specs.Prelude.{Bool, not, ◌||◌}
use Rattle.cached.specs.Rv.{rv}
use Rattle.cached.specs.Soc.{State}

-- none of the four goes; one that is not there does not
abbrev pub all_off : State rv → Bool
all_off h = not (h.on 0 || (h.on 1 || (h.on 2 || h.on 3)))
