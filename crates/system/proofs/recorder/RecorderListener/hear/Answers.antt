-- The words of the four cores after one another, and the events of the row.
use Rattle.std.proofs.Common.{List, ◌++◌, map, vec_items, ap, ◌∙◌}
use Rattle.cores.specs.Ports.{event_of, said_at, somes}
use Rattle.cores.specs.declared.port.Event.{Event}
use Rattle.system.specs.declared.recorder.Said.{Said}
use Rattle.system.specs.Record.{pair_of}
use Rattle.system.proofs.Recorded.{four, same_log}
use Rattle.system.proofs.recorder.RecorderListener.hear.Goals as goal

pub returns : goal.returns
returns c = same_log
    (four (map pair_of (vec_items c.args.self.now.said)) (said_at c.args.words.now 0) (said_at c.args.words.now 1) (said_at c.args.words.now 2) (said_at c.args.words.now 3) _ _ _ _
    (c.note_word.ensures.items ∙ ap (λ (l : List Said). map pair_of l ++ said_at c.args.words.now 0) c.reserve.ensures.items)
    c.note_word-2.ensures.items c.note_word-3.ensures.items c.note_word-4.ensures.items)
    (c.note_events.ensures ∙ ap (λ (l : List Event). map event_of l ++ somes event_of c.args.out.now.did) c.reserve-2.ensures.items)
