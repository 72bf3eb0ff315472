-- Each small step keeps the chip in agreement with the board and the manual's machines.
use Rattle.std.proofs.Common.{◌≡◌, ℕ, ◌/◌, ◌<◌, ◌≤◌, Bool, true, false, ◌&&◌, eqb, ltb, List, [], ◌∷◌, ◌++◌, length, get_or, Some, None, Option, sym, refl, ap, ◌∙◌, subst, arith, length-set}
use mathlib.Core.Bool.{false≢true}
use Rattle.rv32.specs.Did.{Did, goes, stores, says, stops, cpu_after, on_after}
use Rattle.cores.specs.Machines.{interrupt, word, with_word, Core, Manual, core, after, events, begins}
use Rattle.cores.specs.Board.{Out, with_lines, among, handed, kept}
use Rattle.cores.specs.Promise.{Memory}
use Rattle.cores.specs.Put.{put}
use Rattle.cores.specs.Loop.{silent, each}
use Rattle.cores.specs.Ports.{spoken}
use Rattle.cores.proofs.Basics.{by_test, choose, same, less, not_less, append_nil, set_put, with_lines_length}
use Rattle.cores.proofs.Machines.{did_step, did_interrupt, after_core, after_many, fresh_many, fresh_core}
use Rattle.cores.proofs.Loop.{After as After-of, Keeps as Keeps-of, stay_keeps as stay-keeps-of, then_keeps, each_keeps}
use Rattle.soc.specs.Kind.{needed, Within, Kind, Laws, Leaves}
use Rattle.soc.specs.Buffers.{line_in, lies_in}
use Rattle.soc.specs.Soc.{following, written, State, fresh, mine, seen, code_word, data_word, code_lack, data_lack, lacks, placed, received, takes, entered, take_interrupt, finish, ask, skip, try, act_while, act, cycle}
use Rattle.soc.proofs.Lines.{Good, row, Below, line_good, data_here, code_agree, data_agree, first_none, below_lacks, memory_store, memory_words}

following_small : (n t : ℕ) → t < n → following n t < n
following_small n t l = grind arith

ltb_true : (k n : ℕ) → k < n → ltb k n ≡ true
ltb_true k n l = grind arith

ltb_false : (k n : ℕ) → n ≤ k → ltb k n ≡ false
ltb_false k n l = grind arith

-- what holds of the new value and of the old one holds of each place
pub put_has : {A : Type 0} (P : A → Type 0) (f : ℕ → A) (k : ℕ) (x : A) (j : ℕ) → P x → P (f j) → P (put f k x j)
put_has P f k x j p q = choose P (eqb j k) x (f j) (λ _. p) (λ _. q)

-- a value that is there already
pub put_same : {A : Type 0} (f : ℕ → A) (k : ℕ) (x : A) (j : ℕ) → f k ≡ x → put f k x j ≡ f j
put_same {A} f k x j e = choose (λ (v : A). v ≡ f j) (eqb j k) x (f j) (λ t. sym e ∙ ap f (sym (same j k t))) (λ _. refl)

module _ (κ : Kind) where
  abbrev pub Man : Type 0
  Man = Manual κ.isa

  abbrev pub Cor : Type 0
  Cor = Core κ.isa

  abbrev pub Cpu : Type 0
  Cpu = κ.isa.Cpu

  after_said : (μ : Man) (k : ℕ) (d : Did Cpu) → μ.said ++ spoken k d ≡ (after κ.isa μ k d).said
  unfolding after
  after_said μ k (goes c) = append_nil μ.said
  after_said μ k (stores y v c) = append_nil μ.said
  after_said μ k (says x c) = refl
  after_said μ k stops = append_nil μ.said

  core_put : (f : ℕ → Cor) (cpu : ℕ → Cpu) (on : ℕ → Bool) (k : ℕ) (x : Cpu) (b : Bool) (j : ℕ) → f j ≡ record { cpu = cpu j; on = on j } →
      put f k (record { cpu = x; on = b }) j ≡ record { cpu = put cpu k x j; on = put on k b j }
  core_put f cpu on k x b j h = by_test (eqb j k) (λ e. rw e) (λ e. rw e h)

  module _ (laws : Laws κ) where
    -- the chip agrees with memory outside, the lines that wait, what was said, and the manual's machines
    pub record Agrees (h : State κ) (m : List (List ℕ)) (w : List ℕ) (s : List (ℕ × ℕ)) (μ : Man) : Type 0 where
      pub small : h.count ≤ 4
      pub turns : h.turn < h.count
      pub outside : length m ≡ h.size
      pub memory : m ≡ μ.memory
      pub proper : Memory m
      pub many : length μ.cores ≡ h.count
      pub cores : (k : ℕ) → k < h.count → core κ.isa μ k ≡ record { cpu = h.cpu k; on = h.on k }
      pub sound : (k : ℕ) → k < h.count → laws.Sound (h.cpu k)
      pub rest_off : (k : ℕ) → h.count ≤ k → h.on k ≡ false
      pub said : s ≡ μ.said
      pub code : Good m h.fetched
      pub data_line : Good m h.loaded
      pub waits : w ≡ row h.asked
      pub below : Below h.size h.asked

    abbrev pub After : State κ × Out → List (List ℕ) → List ℕ → List (ℕ × ℕ) → Man → Type 0
    After = After-of κ.isa Agrees

    module _ (h : State κ) (m : List (List ℕ)) (w : List ℕ) (s : List (ℕ × ℕ)) (μ : Man) (g : Agrees h m w s μ) where
      stay_keeps : After (h, silent) m w s μ
      stay_keeps = stay-keeps-of κ.isa Agrees h m w s μ g

      -- a line that comes is memory's
      place_agrees : (a : ℕ) → Agrees (placed κ (record { number = a; words = get_or m a [] }) h) m [] s μ
      place_agrees a = record {
        small = g.small;
        turns = g.turns;
        outside = g.outside;
        memory = g.memory;
        proper = g.proper;
        many = g.many;
        cores = g.cores;
        sound = g.sound;
        rest_off = g.rest_off;
        said = g.said;
        code = choose (Good m) (lies_in (code_word κ h) a) _ h.fetched (λ _. refl) (λ _. g.code);
        data_line = choose (Good m) (lies_in (code_word κ h) a) h.loaded _ (λ _. g.data_line) (λ _. refl);
        waits = refl;
        below = tt;
      }

      pub receive_agrees : (gs : List ℕ) → Agrees (received κ (handed m gs 0 w) h) m (kept gs 0 w) s μ
      unfolding handed kept
      receive_agrees gs = rw g.waits (go h.asked (rw g.waits at g))
        where
          go : (x : Option ℕ) → Agrees h m (row x) s μ → Agrees (received κ (handed m gs 0 (row x)) h) m (kept gs 0 (row x)) s μ
          go None i = i
          go (Some a) i = by_test {P = Agrees (received κ (handed m gs 0 (row (Some a))) h) m (kept gs 0 (row (Some a))) s μ} (among 0 gs) (λ e. rw e (place_agrees a)) (λ e. rw e i)

      -- core k of the machines
      pub on_in : (k : ℕ) → k < h.count → (core κ.isa μ k).on ≡ h.on k
      on_in k l = ap (λ (x : Cor). x.on) (g.cores k l)

      pub cpu_in : (k : ℕ) → k < h.count → (core κ.isa μ k).cpu ≡ h.cpu k
      cpu_in k l = ap (λ (x : Cor). x.cpu) (g.cores k l)

      pub on_there : (k : ℕ) → h.on k ≡ true → k < h.count
      on_there k o = by_test (ltb k h.count) (less k h.count) (λ e. absurd (false≢true (sym (g.rest_off k (not_less k h.count e)) ∙ o)))

      -- an instruction is over: the line that it stores to is memory's
      abbrev Fits : Did Cpu → Type 0
      Fits (goes x) = Unit {0}
      Fits (stores y v x) = (line_in h.fetched h.loaded (y / 8) ≡ get_or m (y / 8) []) × (y / 8 < length m)
      Fits (says v x) = Unit {0}
      Fits stops = Unit {0}

      after_memory : (d : Did Cpu) (k : ℕ) → Fits d → with_lines m (written h.fetched h.loaded d) ≡ (after κ.isa μ k d).memory
      unfolding after with_lines with_word
      after_memory (goes x) k f = g.memory
      after_memory (stores y v x) k f = rw (f.0, ← g.memory)
      after_memory (says v x) k f = g.memory
      after_memory stops k f = g.memory

      after_proper : (d : Did Cpu) → Fits d → Leaves laws.Sound d → Memory (with_lines m (written h.fetched h.loaded d))
      unfolding with_lines with_word
      after_proper (goes x) f p = g.proper
      after_proper (stores y v x) f p = rw f.0 (memory_store m y v g.proper f.1 p.0)
      after_proper (says v x) f p = g.proper
      after_proper stops f p = g.proper

      after_sound : (d : Did Cpu) (k : ℕ) → k < h.count → Leaves laws.Sound d → laws.Sound (cpu_after (h.cpu k) d)
      after_sound (goes x) k l p = p
      after_sound (stores y v x) k l p = p.1
      after_sound (says v x) k l p = p
      after_sound stops k l p = g.sound k l

      after_cores : (d : Did Cpu) (k j : ℕ) → k < h.count → j < h.count →
          core κ.isa (after κ.isa μ k d) j ≡ record { cpu = put h.cpu k (cpu_after (h.cpu k) d) j; on = put h.on k (on_after d) j }
      after_cores d k j l i =
          after_core κ.isa μ k d j (rw g.many l)
          ∙ rw (cpu_in k l) (core_put (core κ.isa μ) h.cpu h.on k (cpu_after (h.cpu k) d) (on_after d) j (g.cores j i))

      finish_keeps : (d : Did Cpu) → h.on h.turn ≡ true → h.asked ≡ None → κ.isa.one h.size (mine κ h) (word m) ≡ d → Fits d → After (finish κ d h) m w s μ
      finish_keeps d o q e f =
          let t : ℕ = h.turn in
          let z : κ.isa.one (length μ.memory) (core κ.isa μ t).cpu (word μ.memory) ≡ d = rw (cpu_in t g.turns, ← g.memory, g.outside) e in
          let p : Leaves laws.Sound d = subst (Leaves laws.Sound) e (laws.one_sound h.size (mine κ h) (word m) (g.sound t g.turns) (memory_words m g.proper)) in
          rw (did_step κ.isa μ t d (on_in t g.turns ∙ o) z) (record {
            small = g.small;
            turns = following_small h.count t g.turns;
            outside = with_lines_length m _ ∙ g.outside;
            memory = after_memory d t f;
            proper = after_proper d f p;
            many = after_many κ.isa μ t d ∙ g.many;
            cores = λ j l. after_cores d t j g.turns l;
            sound = λ j l. put_has laws.Sound h.cpu t (cpu_after (h.cpu t) d) j (after_sound d t g.turns p) (g.sound j l);
            rest_off = λ j l. rw (past j t h.count g.turns l) (g.rest_off j l);
            said = rw g.said (after_said μ t d);
            code = tt;
            data_line = tt;
            waits = append_nil w ∙ g.waits ∙ ap row q;
            below = tt;
          })
        where
          past : (j t n : ℕ) → t < n → n ≤ j → eqb j t ≡ false
          past j t n a b = grind arith

      -- an interrupt is taken
      entered_keeps : (k : ℕ) → h.on k ≡ true → After (entered κ k h, record { asks = []; writes = []; says = []; did = interrupt k ∷ [] }) m w s μ
      unfolding with_lines core
      entered_keeps k o =
          let l : k < h.count = on_there k o in
          rw (did_interrupt κ.isa μ k (on_in k l ∙ o), cpu_in k l) (record {
            small = g.small;
            turns = g.turns;
            outside = g.outside;
            memory = g.memory;
            proper = g.proper;
            many = length-set μ.cores k _ ∙ g.many;
            cores = λ j i. set_put μ.cores k _ _ j (rw g.many l) ∙ core_put (core κ.isa μ) h.cpu h.on k (κ.isa.enters (h.cpu k)) true j (g.cores j i)
                ∙ ap (λ (b : Bool). record { cpu = put h.cpu k (κ.isa.enters (h.cpu k)) j; on = b }) (put_same h.on k true j o);
            sound = λ j i. put_has laws.Sound h.cpu k (κ.isa.enters (h.cpu k)) j (laws.enters_sound (h.cpu k) (g.sound k l)) (g.sound j i);
            rest_off = g.rest_off;
            said = append_nil s ∙ g.said;
            code = g.code;
            data_line = g.data_line;
            waits = append_nil w ∙ g.waits;
            below = g.below;
          })

      interrupt_keeps : (up : ℕ → Bool) (k : ℕ) → After (take_interrupt κ up k h) m w s μ
      interrupt_keeps up k = choose (λ (r : State κ × Out). After r m w s μ) (takes κ up k h) _ _ (λ e. entered_keeps k (and_left _ _ e)) (λ _. stay_keeps)
        where
          and_left : (a b : Bool) → (a && b) ≡ true → a ≡ true
          and_left a b e = grind arith

      -- a line is asked for
      ask_keeps : (a : ℕ) → h.asked ≡ None → a < h.size → After (ask κ a h) m w s μ
      unfolding with_lines events
      ask_keeps a q l = record {
        small = g.small;
        turns = g.turns;
        outside = g.outside;
        memory = g.memory;
        proper = g.proper;
        many = g.many;
        cores = g.cores;
        sound = g.sound;
        rest_off = g.rest_off;
        said = append_nil s ∙ g.said;
        code = g.code;
        data_line = g.data_line;
        waits = rw (g.waits, q);
        below = l;
      }

      -- a core that is off is passed over
      skip_keeps : h.asked ≡ None → After (skip κ h) m w s μ
      unfolding with_lines events
      skip_keeps q = record {
        small = g.small;
        turns = following_small h.count h.turn g.turns;
        outside = g.outside;
        memory = g.memory;
        proper = g.proper;
        many = g.many;
        cores = g.cores;
        sound = g.sound;
        rest_off = g.rest_off;
        said = append_nil s ∙ g.said;
        code = tt;
        data_line = tt;
        waits = append_nil w ∙ g.waits ∙ ap row q;
        below = tt;
      }

      -- the word that an instruction needs lies in memory
      needs_within : (t : Option ℕ) (read : ℕ → ℕ) → Within h.size (needed t (κ.touch h.size (mine κ h)) read)
      needs_within None read = tt
      needs_within (Some x) read = laws.touch_within h.size (mine κ h) (read x)

      fits : (d : Did Cpu) → κ.isa.one h.size (mine κ h) (seen κ h) ≡ d → data_lack κ h ≡ None → Fits d
      fits (goes x) e q = tt
      fits (says v x) e q = tt
      fits stops e q = tt
      fits (stores y v x) e q =
          let t : data_word κ h ≡ Some y = laws.storing h.size (mine κ h) (seen κ h) y v x e in
          let b : y / 8 < h.size = in_line y (subst (Within h.size) t (needs_within (code_word κ h) (seen κ h))) in (
            line_good m h.fetched h.loaded (y / 8) g.code g.data_line (data_here y h.fetched h.loaded (rw t at q)),
            rw g.outside b,
          )
        where
          in_line : (y : ℕ) → Within h.size (Some y) → y / 8 < h.size
          in_line y l = omega arith

      do_keeps : h.on h.turn ≡ true → h.asked ≡ None → code_lack κ h ≡ None → data_lack κ h ≡ None → After (finish κ (κ.isa.one h.size (mine κ h) (seen κ h)) h) m w s μ
      do_keeps o q x y = finish_keeps (κ.isa.one h.size (mine κ h) (seen κ h)) o q
          (sym (laws.alike h.size (mine κ h) (seen κ h) (word m) (code_agree m h.fetched h.loaded _ g.code g.data_line x) (data_agree m h.fetched h.loaded _ g.code g.data_line y)))
          (fits _ refl y)

      try_keeps : h.on h.turn ≡ true → h.asked ≡ None → (x : Option ℕ) → lacks κ h ≡ x → After (try κ x h) m w s μ
      try_keeps o q None e = let z = first_none (code_lack κ h) (data_lack κ h) e in do_keeps o q z.0 z.1
      try_keeps o q (Some a) e = ask_keeps a q (subst (Below h.size) e
          (below_lacks h.size (code_word κ h) (data_word κ h) h.fetched h.loaded (laws.looks_within h.size (mine κ h)) (needs_within (code_word κ h) (seen κ h))))

      act_keeps : (x : Option ℕ) → h.asked ≡ x → After (act_while κ x h) m w s μ
      act_keeps (Some a) q = stay_keeps
      act_keeps None q = choose (λ (r : State κ × Out). After r m w s μ) (h.on h.turn) _ _ (λ o. try_keeps o q _ refl) (λ _. skip_keeps q)

    abbrev pub Keeps : ℕ → (State κ → State κ × Out) → Type 0
    Keeps = Keeps-of κ.isa Agrees

    pub acts_keep : (n : ℕ) → Keeps n (act κ)
    acts_keep n h m w s μ e g = act_keeps h m w s μ g h.asked refl

    pub interrupts_keep : (n : ℕ) (up : ℕ → Bool) (k : ℕ) → Keeps n (take_interrupt κ up k)
    interrupts_keep n up k h m w s μ e g = interrupt_keeps h m w s μ g up k

    pub loop_keeps : (n : ℕ) (up : ℕ → Bool) → Keeps n (each (take_interrupt κ up) 4)
    loop_keeps n up = each_keeps κ.isa Agrees n (take_interrupt κ up) 4 (λ k l. interrupts_keep n up k)

    -- a cycle keeps the agreement
    pub cycle_keeps : (h : State κ) (m : List (List ℕ)) (w : List ℕ) (s : List (ℕ × ℕ)) (μ : Man) (gs : List ℕ) (up : ℕ → Bool) → Agrees h m w s μ →
        After (cycle κ h (handed m gs 0 w) up) m (kept gs 0 w) s μ
    unfolding cycle
    cycle_keeps h m w s μ gs up g =
        then_keeps κ.isa Agrees (length μ.cores) (each (take_interrupt κ up) 4) (act κ) (loop_keeps (length μ.cores) up) (acts_keep (length μ.cores))
        (received κ (handed m gs 0 w) h) m (kept gs 0 w) s μ refl (receive_agrees h m w s μ g gs)

    -- a new chip agrees with new machines
    pub starts : (n : ℕ) (m : List (List ℕ)) → 1 ≤ n → n ≤ 4 → Memory m → Agrees (fresh κ n (length m)) m [] [] (begins κ.isa n m)
    unfolding begins core
    starts n m p q r = record {
      small = q;
      turns = p;
      outside = refl;
      memory = refl;
      proper = r;
      many = fresh_many κ.isa 0 n;
      cores = λ k l. rw (ltb_true k n l, ltb_true k 4 (omega arith)) (fresh_core κ.isa 0 n k _ l ∙ ap (λ (i : ℕ). record { cpu = κ.isa.start i; on = true }) (omega arith));
      sound = λ k l. rw (ltb_true k 4 (omega arith)) (laws.start_sound k (omega arith));
      rest_off = λ k l. ltb_false k n l;
      said = refl;
      code = tt;
      data_line = tt;
      waits = refl;
      below = tt;
    }
