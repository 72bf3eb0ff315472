-- The chip: cores with caches, a directory, messages between them, and a turn; its state, and a cycle of it as small steps.
-- Assumes nothing: these are definitions.
use Rattle.std.specs.Prelude.{ℕ, suc, ◌+◌, ◌*◌, ◌%◌, Bool, true, false, not, ◌&&◌, ◌||◌, List, [], ◌∷◌, ◌==◌, nat_lt}
use Rattle.rv32.specs.Did.{Did, cpu_after, on_after}
use Rattle.cores.specs.Machines.{pick, Event, step, interrupt}
use Rattle.cores.specs.Board.{Out, Chip}
use Rattle.cores.specs.Ports.{spoken}
use Rattle.cores.specs.Put.{put}
use Rattle.cores.specs.Loop.{silent, Step, then, each}
use Rattle.cached.specs.Kind.{Kind, code, operand}
use Rattle.cache.specs.Slots.{empty, holds, has, words, raised, back, is_empty, home, find, cached, Lack, ready, lacks, seek, first, line_of, goes_first, chosen}
use Rattle.link.specs.Messages.{quiet, is_quiet, Probe, unasked, ask, is_unasked, all_unasked}
use Rattle.directory.specs.Directory.{nobody, Request, idle, wants, queued, probing, fetching, is_idle, keeps, free, unhurried, question}
use Rattle.cached.specs.Lines.{Lines, takes, releases, lowers, grants, asks, lines_after, deliver_all}

-- what only the time depends on: whatever these are, the chip does what the manual says. The probe on its way to each core; whether the next message
-- of a core's row is its grant, and not its probe; the core whose request the probes are for; the core whose turn it is; which of two places is
-- replaced next; and which slot a stopped core hands back next
pub record Hints : Type 0 where
  pub probe : ℕ → Probe
  pub due : ℕ → Bool
  pub lead : ℕ
  pub turn : ℕ
  pub way : Bool
  pub sweep : ℕ → ℕ

abbrev pub with_probes : (ℕ → Probe) → Hints → Hints
with_probes t h = record { probe = t; due = h.due; lead = h.lead; turn = h.turn; way = h.way; sweep = h.sweep }

abbrev pub with_lead : (ℕ → Probe) → ℕ → Hints → Hints
with_lead t j h = record { probe = t; due = h.due; lead = j; turn = h.turn; way = h.way; sweep = h.sweep }

abbrev pub with_due : (ℕ → Bool) → Hints → Hints
with_due d h = record { probe = h.probe; due = d; lead = h.lead; turn = h.turn; way = not h.way; sweep = h.sweep }

abbrev pub with_turn : ℕ → Hints → Hints
with_turn t h = record { probe = h.probe; due = h.due; lead = h.lead; turn = t; way = h.way; sweep = h.sweep }

abbrev pub with_sweep : ℕ → ℕ → Hints → Hints
with_sweep k s h = record { probe = h.probe; due = h.due; lead = h.lead; turn = h.turn; way = h.way; sweep = put h.sweep k s }

-- core t, or the first if there are only n
abbrev pub around : ℕ → ℕ → ℕ
around n t = pick (nat_lt t n) t 0

-- an instruction of core k is among the events
unfoldable pub stepped : ℕ → List Event → Bool
stepped k [] = false
stepped k (step j ∷ es) = j == k || stepped k es
stepped k (interrupt j ∷ es) = stepped k es

module _ (κ : Kind) where
  -- how many cores there are, and lines of memory; the registers of each core, and whether it goes; the lines; and the hints
  pub record State : Type 0 where
    pub count : ℕ
    pub size : ℕ
    pub cpu : ℕ → κ.isa.Cpu
    pub on : ℕ → Bool
    pub lines : Lines
    pub hints : Hints

  -- a new chip of n cores, for a memory of so many lines; cores from n on are off
  abbrev pub fresh : ℕ → ℕ → State
  fresh n size = record {
    count = n;
    size = size;
    cpu = λ k. pick (nat_lt k 4) (κ.isa.start k) (κ.isa.start 0);
    on = λ k. nat_lt k n;
    lines = record { slot = λ p. empty; coming = λ k. quiet; entry = λ p. nobody; request = λ k. idle };
    hints = record { probe = λ k. unasked; due = λ k. true; lead = 0; turn = 0; way = false; sweep = λ k. 0 };
  }

  abbrev pub with_lines_of : Lines → State → State
  with_lines_of l c = record { count = c.count; size = c.size; cpu = c.cpu; on = c.on; lines = l; hints = c.hints }

  abbrev pub with_hints : Hints → State → State
  with_hints h c = record { count = c.count; size = c.size; cpu = c.cpu; on = c.on; lines = c.lines; hints = h }

  abbrev pub with_core : ℕ → κ.isa.Cpu → Bool → State → State
  with_core k x b c = record { count = c.count; size = c.size; cpu = put c.cpu k x; on = put c.on k b; lines = c.lines; hints = c.hints }

  -- nothing happens
  abbrev pub stay : Step State
  stay c = (c, silent)

  -- a change of lines, with what is written to memory
  abbrev pub moves : Lines → List (ℕ × List ℕ) → Step State
  moves l ws c = (with_lines_of l c, record { asks = []; writes = ws; says = []; did = [] })

  -- a change of hints
  abbrev pub hint : (State → Hints) → Step State
  hint g c = (with_hints (g c) c, silent)

  -- place q is handed back; a dirty line goes to memory
  abbrev pub release : ℕ → Step State
  release q c = moves (releases q c.lines) (back (c.lines.slot q)) c

  -- what place q has may only be read from now on; a dirty line goes to memory
  abbrev pub downgrade : ℕ → Step State
  downgrade q c = moves (lowers q c.lines) (back (c.lines.slot q)) c

  -- OPEN: lines come from memory. Before that it is settled which message each core takes, the older one where both its grant and its probe stand in
  -- the row: its grant, if that stood there already, or if nothing is asked of it; else its probe
  abbrev pub deliver : List (ℕ × List ℕ) → Step State
  deliver xs c = (
    with_hints (with_due (λ k. is_unasked (c.hints.probe k) || not (is_quiet (c.lines.coming k))) c.hints) (with_lines_of (deliver_all 4 xs c.lines) c),
    silent,
  )

  -- TAKE: core k takes its grant, if that is due
  abbrev pub take_grant : ℕ → Step State
  take_grant k c = moves (takes k c.lines) [] c

  abbrev pub take_due : ℕ → Step State
  take_due k c = pick (c.hints.due k) (take_grant k c) (c, silent)

  -- a request that is probing waits for its start again
  abbrev pub requeue : ℕ → Request → Step State
  requeue j idle = stay
  requeue j (wants a o p queued) = stay
  requeue j (wants a o p fetching) = stay
  requeue j (wants a o p probing) = λ c. moves (asks j (wants a o p queued) c.lines) [] c

  -- the last reply to core j's probes is that place q hands back line a: it goes on to core j, to write and dirty as it is, if that is what core j
  -- waits for and nobody has it any more. (This test never fails; with it nothing has to be known of probes for the chip to be right)
  abbrev pub hand_on : ℕ → ℕ → ℕ → Request → Step State
  hand_on q a j idle = release q
  hand_on q a j (wants b o p queued) = release q
  hand_on q a j (wants b o p fetching) = release q
  hand_on q a j (wants b o p probing) = λ c.
      pick (b == a && free (put c.lines.entry q nobody) a 4) (moves (grants j p (raised (c.lines.slot q)) (releases q c.lines)) [] c)
      (then (release q) (requeue j (wants b o p probing)) c)

  -- or that place q may only read line a any more: core j is granted it to read
  abbrev pub share_on : ℕ → ℕ → ℕ → Request → Step State
  share_on q a j idle = downgrade q
  share_on q a j (wants b o p queued) = downgrade q
  share_on q a j (wants b o p fetching) = downgrade q
  share_on q a j (wants b o p probing) = λ c.
      pick (b == a && not o) (then (downgrade q) (λ d. moves (grants j p (holds a false false (words (c.lines.slot q))) d.lines) [] d) c)
      (then (downgrade q) (requeue j (wants b o p probing)) c)

  -- core k's probe is taken from its row
  abbrev pub drop_probe : ℕ → Step State
  drop_probe k = hint (λ c. with_probes (put c.hints.probe k unasked) c.hints)

  -- place p lets go of line a: wholly, if it is to be invalidated, or of writing it. If it is the last to do so, the request that asked has the line;
  -- a core that has stopped gets nothing to write
  abbrev pub lets_go : ℕ → ℕ → Bool → Step State
  lets_go p a true c = pick (all_unasked c.hints.probe && c.on c.hints.lead) (hand_on p a c.hints.lead (c.lines.request c.hints.lead) c) (release p c)
  lets_go p a false c = pick (all_unasked c.hints.probe) (share_on p a c.hints.lead (c.lines.request c.hints.lead) c) (downgrade p c)

  -- a request for which nobody is asked any more, and that still probes, waits for its start again
  abbrev pub requeue_lead : Step State
  requeue_lead c = pick (all_unasked c.hints.probe) (requeue c.hints.lead (c.lines.request c.hints.lead) c) (c, silent)

  -- a probe is answered
  abbrev pub answer : ℕ → Probe → Step State
  answer k unasked c = (c, silent)
  answer k (ask p a o) c = pick (has (c.lines.slot p) a) (then (drop_probe k) (then (lets_go p a o) requeue_lead) c) (then (drop_probe k) requeue_lead c)

  -- ANSWER: core k answers its probe, if its grant was not due
  abbrev pub answer_probe : ℕ → Step State
  answer_probe k c = pick (c.hints.due k) (c, silent) (answer k (c.hints.probe k) c)

  -- what core k's next instruction lacks: the line of the instruction, else the line of what it needs besides
  abbrev pub lacked : State → ℕ → Lack
  lacked c k = first (seek c.lines.slot k (code κ c.size (c.cpu k))) (seek c.lines.slot k (operand κ c.size (c.cpu k) (cached c.lines.slot k)))

  -- the instruction of core k is done
  abbrev pub execute : ℕ → Did κ.isa.Cpu → Step State
  execute k d c = (
    record { count = c.count; size = c.size; cpu = put c.cpu k (cpu_after (c.cpu k) d); on = put c.on k (on_after d); lines = lines_after k d c.lines; hints = c.hints },
    record { asks = []; writes = []; says = spoken k d; did = step k ∷ [] },
  )

  -- core k takes an interrupt
  abbrev pub take_interrupt : ℕ → Step State
  take_interrupt k c = (with_core k (κ.isa.enters (c.cpu k)) true c, record { asks = []; writes = []; says = []; did = interrupt k ∷ [] })

  -- core k asks for line a, to write or to read, for place p, and hands back what place p has in the same message
  abbrev pub send_request : ℕ → ℕ → Bool → ℕ → Step State
  send_request k a o p c = moves (asks k (wants a o p queued) (releases p c.lines)) (back (c.lines.slot p)) c

  -- core k may send a message: it has answered nothing in this cycle, and nothing is asked of it
  abbrev pub may_send : State → ℕ → Bool
  may_send c k = c.hints.due k && is_unasked (c.hints.probe k)

  -- which of two places core k gives up for line a, and which place it asks for
  abbrev pub way_for : State → ℕ → ℕ → Bool
  way_for c k a = goes_first (c.lines.slot (home k a)) (c.lines.slot (suc (home k a))) (line_of (code κ c.size (c.cpu k))) c.hints.way

  abbrev pub place_for : State → ℕ → ℕ → ℕ
  place_for c k a = chosen (find c.lines.slot k a) k a (way_for c k a)

  -- core k does its instruction; or asks for the line that it lacks, if it may send, has not asked for one already, and none is on its way
  abbrev pub attempt : ℕ → Lack → Step State
  attempt k ready c = execute k (κ.isa.one c.size (c.cpu k) (cached c.lines.slot k)) c
  attempt k (lacks a o) c =
      pick (may_send c k && (is_idle (c.lines.request k) && is_quiet (c.lines.coming k))) (send_request k a o (place_for c k a) c) (c, silent)

  -- core k, which goes, takes an interrupt if its line is up and they are let; else it tries its instruction
  abbrev pub run_core : ℕ → Bool → Step State
  run_core k up c = pick (up && κ.isa.lets (c.cpu k)) (take_interrupt k c) (attempt k (lacked c k) c)

  -- place q is handed back, if it has something
  abbrev pub write_back : ℕ → Step State
  write_back q c = pick (is_empty (c.lines.slot q)) (c, silent) (release q c)

  -- core k, which has stopped, hands back a slot, and the next one the next time, if it may send
  abbrev pub sweep_slot : ℕ → Step State
  sweep_slot k c =
      pick (may_send c k) (then (write_back (64 * k + c.hints.sweep k % 64)) (hint (λ d. with_sweep k ((d.hints.sweep k + 1) % 64) d.hints)) c) (c, silent)

  -- ACT: a core that goes takes an interrupt, does its instruction or sends a request; one that has stopped hands back its slots one after another.
  -- So each core does one event at most in a cycle, and writes one line at most: one that has answered a probe does not send
  abbrev pub act : (ℕ → Bool) → ℕ → Step State
  act up k c = pick (c.on k) (pick (nat_lt k c.count) (run_core k (up k) c) (c, silent)) (sweep_slot k c)

  -- the request of core k can be started: it waits for that, its core goes, no other request for the line is under way, and nobody has the line, so
  -- that it can be fetched; or no probe is under way, and it is the turn of core k, or the core whose turn it is does not have the line
  abbrev pub startable : State → ℕ → Request → Bool
  startable c k idle = false
  startable c k (wants a o p probing) = false
  startable c k (wants a o p fetching) = false
  startable c k (wants a o p queued) = c.on k && (unhurried c.lines.request a 4
      && (free c.lines.entry a 4 || (all_unasked c.hints.probe && (k == c.hints.turn || not (keeps c.lines.entry a c.hints.turn)))))

  abbrev pub can_start : State → ℕ → Bool
  can_start c k = startable c k (c.lines.request k)

  -- the first core, from that on whose turn it is, whose request can be started
  abbrev pub next_start : State → ℕ
  next_start c =
      let t = c.hints.turn in
      let u = around c.count (suc t) in
      let v = around c.count (suc u) in
      pick (can_start c t) t (pick (can_start c u) u (pick (can_start c v) v (around c.count (suc v))))

  -- the request of core k is started: a line that nobody has is asked for from memory; else probes go to those who have it
  abbrev pub start_request : ℕ → Request → Step State
  start_request k idle c = (c, silent)
  start_request k (wants a o p probing) c = (c, silent)
  start_request k (wants a o p fetching) c = (c, silent)
  start_request k (wants a o p queued) c =
      pick (free c.lines.entry a 4)
      (with_lines_of (asks k (wants a o p fetching) c.lines) c, record { asks = a ∷ []; writes = []; says = []; did = [] })
      (with_hints (with_lead (question c.lines.entry a o) k c.hints) (with_lines_of (asks k (wants a o p probing) c.lines) c), silent)

  abbrev pub start_at : ℕ → Step State
  start_at k c = pick (can_start c k) (start_request k (c.lines.request k) c) (c, silent)

  -- START: one request at most is started, so that a cycle asks for one line at most
  abbrev pub start_next : Step State
  start_next c = start_at (next_start c) c

  -- each loop goes over all four cores
  abbrev pub take_all : Step State
  take_all = each take_due 4

  abbrev pub answer_all : Step State
  answer_all = each answer_probe 4

  abbrev pub act_all : (ℕ → Bool) → Step State
  act_all up = each (act up) 4

  -- what a cycle does but for the turn, from its end
  abbrev pub last : (ℕ → Bool) → Step State
  last up = then (act_all up) start_next

  abbrev pub middle : (ℕ → Bool) → Step State
  middle up = then answer_all (last up)

  abbrev pub rest : (ℕ → Bool) → Step State
  rest up = then take_all (middle up)

  abbrev pub body : List (ℕ × List ℕ) → (ℕ → Bool) → Step State
  body xs up = then (deliver xs) (rest up)

  -- TURN: it passes to the next core, if the core whose turn it is has done an instruction in this cycle, or has stopped
  abbrev pub turn_after : List Event → State → ℕ
  turn_after es c = pick (stepped c.hints.turn es || not (c.on c.hints.turn)) (around c.count (suc c.hints.turn)) c.hints.turn

  -- A CYCLE: open, take, answer, act, start, turn
  unfoldable pub cycle : State → List (ℕ × List ℕ) → (ℕ → Bool) → State × Out
  cycle c xs up = let r = body xs up c in (with_hints (with_turn (turn_after r.1.did r.0) r.0.hints) r.0, r.1)

-- the chip of a kind of core
abbrev pub chip : Kind → Chip
chip κ = record { State = State κ; fresh = fresh κ; cycle = cycle κ }
