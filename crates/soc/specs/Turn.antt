-- What the core whose turn it is lacks and does, over the values that the code reads out of the lent words.
-- Assumes nothing: these are definitions.
use Rattle.std.specs.Prelude.{◌≡◌, ℕ, ◌≤◌, List, [], ◌∷◌, Some, None, Option, slice_index_or}
use Rattle.rv32.specs.Execute.{fetch}
use Rattle.rv32.specs.declared.core_state.Core.{Core}
use Rattle.cores.specs.Machines.{pick, Event, step}
use Rattle.cores.specs.Board.{Out}
use Rattle.cores.specs.Loop.{silent}
use Rattle.cores.specs.Ports.{line_of, somes}
use Rattle.cores.specs.declared.port.Event as port
use Rattle.cores.specs.declared.port.Line.{Line}
use Rattle.soc.specs.Kind.{needs}
use Rattle.soc.specs.Rv.{rv}
use Rattle.soc.specs.Buffers.{word_in, lies_in, lacks_code, lacks_data, first}
use Rattle.soc.specs.Soc.{following}
use Rattle.soc.specs.declared.control.Control.{Control}
use Rattle.soc.specs.declared.control.Act.{Act}
use Rattle.soc.specs.declared.control.Act.TheVariants.{Waits, Skips, Asks, Does}

-- the words that the two buffers have
abbrev pub words_in : Control → ℕ → ℕ
words_in s = word_in s.fetched s.loaded

-- the line that core c lacks: that of its instruction, else that of its data
abbrev pub lacked : Control → Core → Option ℕ
lacked s c = first (lacks_code (fetch s.size c) s.fetched) (lacks_data (needs rv s.size c (words_in s)) s.fetched s.loaded)

-- what is shared once the turn has passed, and once a line has come for a core that fetches this word
abbrev pub turned : Control → Control
turned s = record { count = s.count; size = s.size; turn = following s.count s.turn; asked = None; fetched = None; loaded = None }

abbrev pub filled : Control → Option ℕ → Line → Control
filled s code l = record {
  count = s.count;
  size = s.size;
  turn = s.turn;
  asked = None;
  fetched = pick (lies_in code l.number) (Some l) s.fetched;
  loaded = pick (lies_in code l.number) s.loaded (Some l);
}

-- the places of a row of events are empty from place n on
abbrev pub EmptyFrom : ℕ → List (Option port.Event) → Type 0
EmptyFrom n row = (j : ℕ) → n ≤ j → slice_index_or row j None ≡ None

-- only events are put out
abbrev pub only_did : List Event → Out
only_did es = record { asks = []; writes = []; says = []; did = es }

-- what core k puts out by what it does in its turn
abbrev pub put_out : ℕ → Act → Out
put_out k Waits = silent
put_out k Skips = silent
put_out k (Asks a) = record { asks = a ∷ []; writes = []; says = []; did = [] }
put_out k (Does wrote said) = record { asks = []; writes = somes line_of (wrote ∷ []); says = somes (λ x. (k, x)) (said ∷ []); did = step k ∷ [] }
