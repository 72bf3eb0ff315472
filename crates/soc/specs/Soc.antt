-- The chip without caches: cores take turns at the memory, and the core whose turn it is has two line buffers, for its instruction and for its data.
-- Assumes nothing: these are definitions.
use Rattle.std.specs.Prelude.{ℕ, ◌+◌, ◌/◌, ◌%◌, Bool, ◌&&◌, List, [], ◌∷◌, Some, None, Option, nat_lt, slice_set}
use Rattle.rv32.specs.Did.{Did, goes, stores, says, stops, cpu_after, on_after}
use Rattle.cores.specs.Machines.{pick, step, interrupt}
use Rattle.cores.specs.Board.{Out, Chip}
use Rattle.cores.specs.Put.{put}
use Rattle.cores.specs.Loop.{silent, Step, then, each}
use Rattle.cores.specs.Ports.{spoken}
use Rattle.cores.specs.declared.port.Line.{Line}
use Rattle.soc.specs.Kind.{Kind, needs}
use Rattle.soc.specs.Buffers.{line_in, word_in, lies_in, lacks_code, lacks_data, first}

-- whose turn is next, of n
abbrev pub following : ℕ → ℕ → ℕ
following n t = pick (nat_lt (t + 1) n) (t + 1) 0

-- the line that is written through to memory, with the word that was stored
abbrev pub written : {Cpu : Type 0} → Option Line → Option Line → Did Cpu → List (ℕ × List ℕ)
written fetched loaded (goes d) = []
written fetched loaded (stores y v d) = (y / 8, slice_set (line_in fetched loaded (y / 8)) (y % 8) v) ∷ []
written fetched loaded (says x d) = []
written fetched loaded stops = []

module _ (κ : Kind) where
  -- how many cores there are, and lines of memory; whose turn it is; the registers of each core, and whether it goes; the line of the instruction
  -- and the line of the data, for the core whose turn it is; and the line that is asked for and has not come
  pub record State : Type 0 where
    pub count : ℕ
    pub size : ℕ
    pub turn : ℕ
    pub cpu : ℕ → κ.isa.Cpu
    pub on : ℕ → Bool
    pub fetched : Option Line
    pub loaded : Option Line
    pub asked : Option ℕ

  -- a new chip of n cores, for a memory of so many lines; cores from n on are off
  abbrev pub fresh : ℕ → ℕ → State
  fresh n size = record {
    count = n;
    size = size;
    turn = 0;
    cpu = λ k. pick (nat_lt k 4) (κ.isa.start k) (κ.isa.start 0);
    on = λ k. nat_lt k n;
    fetched = None;
    loaded = None;
    asked = None;
  }

  -- the registers of the core whose turn it is
  abbrev pub mine : State → κ.isa.Cpu
  mine h = h.cpu h.turn

  -- memory's words, as the buffers have them
  abbrev pub seen : State → ℕ → ℕ
  seen h = word_in h.fetched h.loaded

  -- the word that its instruction is fetched from
  abbrev pub code_word : State → Option ℕ
  code_word h = κ.looks h.size (mine h)

  -- the word that the instruction needs
  abbrev pub data_word : State → Option ℕ
  data_word h = needs κ h.size (mine h) (seen h)

  -- the line of its instruction, if that is lacked
  abbrev pub code_lack : State → Option ℕ
  code_lack h = lacks_code (code_word h) h.fetched

  -- the line of its data, if that is lacked
  abbrev pub data_lack : State → Option ℕ
  data_lack h = lacks_data (data_word h) h.fetched h.loaded

  -- the line to ask for
  abbrev pub lacks : State → Option ℕ
  lacks h = first (code_lack h) (data_lack h)

  -- a line comes: into the first buffer if it has the instruction's word, else into the second
  abbrev pub placed : Line → State → State
  placed l h = record {
    count = h.count;
    size = h.size;
    turn = h.turn;
    cpu = h.cpu;
    on = h.on;
    fetched = pick (lies_in (code_word h) l.number) (Some l) h.fetched;
    loaded = pick (lies_in (code_word h) l.number) h.loaded (Some l);
    asked = None;
  }

  -- the first of the lines that come; no other comes, since no more than one is asked for
  abbrev pub received : List (ℕ × List ℕ) → State → State
  received [] h = h
  received (x ∷ xs) h = placed (record { number = x.0; words = x.1 }) h

  -- RECEIVE: a line may come
  abbrev pub receive : List (ℕ × List ℕ) → Step State
  receive lines h = (received lines h, silent)

  -- whether core k takes an interrupt: it goes, its line is up, and it lets them
  abbrev pub takes : (ℕ → Bool) → ℕ → State → Bool
  takes up k h = h.on k && (up k && κ.isa.lets (h.cpu k))

  -- core k has taken one
  abbrev pub entered : ℕ → State → State
  entered k h = record {
    count = h.count;
    size = h.size;
    turn = h.turn;
    cpu = put h.cpu k (κ.isa.enters (h.cpu k));
    on = h.on;
    fetched = h.fetched;
    loaded = h.loaded;
    asked = h.asked;
  }

  -- INTERRUPT: core k may take one
  abbrev pub take_interrupt : (ℕ → Bool) → ℕ → Step State
  take_interrupt up k h = pick (takes up k h) (entered k h, record { asks = []; writes = []; says = []; did = interrupt k ∷ [] }) (h, silent)

  -- the turn has passed, and both lines are dropped; registers and who goes are these
  abbrev pub passed : (ℕ → κ.isa.Cpu) → (ℕ → Bool) → State → State
  passed cpu on h = record {
    count = h.count;
    size = h.size;
    turn = following h.count h.turn;
    cpu = cpu;
    on = on;
    fetched = None;
    loaded = None;
    asked = None;
  }

  -- the instruction is done, a line that it stored to is written, and the turn passes
  abbrev pub finish : Did κ.isa.Cpu → Step State
  finish d h = (
    passed (put h.cpu h.turn (cpu_after (mine h) d)) (put h.on h.turn (on_after d)) h,
    record { asks = []; writes = written h.fetched h.loaded d; says = spoken h.turn d; did = step h.turn ∷ [] },
  )

  -- line a is asked for
  abbrev pub ask : ℕ → Step State
  ask a h = (
    record {
      count = h.count;
      size = h.size;
      turn = h.turn;
      cpu = h.cpu;
      on = h.on;
      fetched = h.fetched;
      loaded = h.loaded;
      asked = Some a;
    },
    record { asks = a ∷ []; writes = []; says = []; did = [] },
  )

  -- a core that is off is passed over
  abbrev pub skip : Step State
  skip h = (passed h.cpu h.on h, silent)

  -- the line that is lacked is asked for; where none is, the instruction is done
  abbrev pub try : Option ℕ → Step State
  try None h = finish (κ.isa.one h.size (mine h) (seen h)) h
  try (Some a) h = ask a h

  -- nothing is done while a line is waited for
  abbrev pub act_while : Option ℕ → Step State
  act_while None h = pick (h.on h.turn) (try (lacks h) h) (skip h)
  act_while (Some a) h = (h, silent)

  -- ACT: the core whose turn it is gets on
  abbrev pub act : Step State
  act h = act_while h.asked h

  -- A CYCLE: a line may come, each core may take an interrupt, and then the core whose turn it is gets on
  unfoldable pub cycle : State → List (ℕ × List ℕ) → (ℕ → Bool) → State × Out
  cycle h lines up = then (receive lines) (then (each (take_interrupt up) 4) act) h

-- the chip of a kind of core
abbrev pub chip : Kind → Chip
chip κ = record { State = State κ; fresh = fresh κ; cycle = cycle κ }
