-- How what a recorder keeps is read.
-- Assumes nothing: these are definitions.
use Rattle.std.specs.Prelude.{ℕ, map}
use Rattle.cores.specs.Ports.{event_of}
use Rattle.system.specs.Log.{Log}
use Rattle.system.specs.declared.recorder.Recorder.{Recorder}
use Rattle.system.specs.declared.recorder.Said.{Said}

-- core and word
abbrev pub pair_of : Said → ℕ × ℕ
pair_of s = (s.core, s.word)

abbrev pub recorded : Recorder → Log
recorded r = record { said = map pair_of r.said.items; did = map event_of r.did.items }
