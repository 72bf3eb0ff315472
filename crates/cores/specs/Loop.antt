-- A cycle as small steps, one after another, and one for each core.
-- Assumes nothing: these are definitions.
use Rattle.std.specs.Prelude.{ℕ, zero, suc, [], ◌++◌}
use Rattle.cores.specs.Board.{Out}

-- nothing is put out
abbrev pub silent : Out
silent = record { asks = []; writes = []; says = []; did = [] }

-- what two steps put out, the first first
abbrev pub joined : Out → Out → Out
joined o p = record { asks = o.asks ++ p.asks; writes = o.writes ++ p.writes; says = o.says ++ p.says; did = o.did ++ p.did }

-- a step makes another state of a state, and puts something out
abbrev pub Step : Type 0 → Type 0
Step S = S → S × Out

-- a step, then another
abbrev pub then : {S : Type 0} → Step S → Step S → Step S
then f g c = ((g (f c).0).0, joined (f c).1 (g (f c).0).1)

-- a step for each of the first j cores
unfoldable pub each : {S : Type 0} → (ℕ → Step S) → ℕ → Step S
each f zero c = (c, silent)
each f (suc j) c = then (each f j) (f j) c
