-- Each small step of the chip keeps it in agreement with the board and the machines; and so does one after another.
use Rattle.std.proofs.Common.{◌≡◌, ℕ, zero, suc, ◌/◌, ◌%◌, ◌<◌, ◌≤◌, Bool, true, false, not, ◌&&◌, eqb, ltb, ◌≢◌, ◌⊎◌, List, [], ◌++◌, length, set, refl, ap, ◌∙◌, subst, inl, inr, append_assoc, arith, length-set}
use mathlib.Core.Bool.{false≢true}
use Rattle.rv32.specs.Did.{Did, cpu_after, goes, on_after, says, stops, stores}
use Rattle.cores.specs.Board.{Out, with_lines}
use Rattle.cores.specs.Loop.{Step, each, then}
use Rattle.cores.specs.Machines.{Core, Manual, after, core, events, pick, with_word, word}
use Rattle.cores.specs.Promise.{Memory}
use Rattle.cores.specs.Put.{put}
use Rattle.cores.proofs.Basics.{by_test, set_put, with_lines_append, with_lines_length, same, less, append_nil}
use Rattle.cores.proofs.Machines.{events_append, did_step, did_interrupt, after_core, after_many}
use Rattle.cores.proofs.Memory.{memory_set, memory_line}
use Rattle.cores.specs.Ports.{spoken}
use Rattle.cached.specs.Soc.{State, execute, hand_on, release, take_interrupt, moves, requeue, share_on, stay, take_grant, downgrade}
use Rattle.cached.specs.Coherent.{Fair, Good, Shape, view, Asks, Clear, Safe}
use Rattle.directory.specs.Directory.{Entry, Request, busy, fetching, free, held, idle, nobody, owned, probing, queued, tag, wants}
use Rattle.cached.specs.Kind.{Kind, Laws, Leaves}
use Rattle.cached.specs.Lines.{Lines, asks, grants, lines_after, lowers, releases, takes}
use Rattle.cache.specs.Slots.{home, Slot, back, empty, find, found, has, holds, lowered, owns, raised, words}
use Rattle.cached.proofs.Base.{put_holds, both, eqb_self}
use Rattle.cached.proofs.Copies.{written}
use Rattle.cached.proofs.Lists.{at_line, line_set, line_word, memory_store, memory_words}
use Rattle.cached.proofs.Safe.{ask_safe, fill_safe, lower_safe, pass_safe, release_safe, share_safe, take_safe}
use Rattle.cached.proofs.Tidy.{clear_here, clear_view, lower_fair, owns_has, release_fair}

-- a dirty line that is written to memory
back_written : (x : Slot) (m : List (List ℕ)) → ((a : ℕ) → has x a ≡ true → a < length m) → at_line (with_lines m (back x)) ≡ written x (at_line m)
unfolding with_lines
back_written empty m h = refl
back_written (holds a o true w) m h = line_set m a w (h a (eqb_self a))
back_written (holds a o false w) m h = refl

module _ (κ : Kind) (laws : Laws κ) where
  -- the chip agrees with memory outside, with what was said, and with the machines
  pub record Agrees (c : State κ) (m : List (List ℕ)) (s : List (ℕ × ℕ)) (μ : Manual κ.isa) : Type 0 where
    pub safe : Safe c.size c.lines (at_line m) (at_line μ.memory)
    pub small : c.count ≤ 4
    pub outside : length m ≡ c.size
    pub inside : length μ.memory ≡ c.size
    pub many : length μ.cores ≡ c.count
    pub cores : (k : ℕ) → k < c.count → core κ.isa μ k ≡ record { cpu = c.cpu k; on = c.on k }
    pub said : s ≡ μ.said
    pub proper : Memory m
    pub words_true : Memory μ.memory
    pub sound : (k : ℕ) → k < c.count → laws.Sound (c.cpu k)

  abbrev pub After : State κ × Out → List (List ℕ) → List (ℕ × ℕ) → Manual κ.isa → Type 0
  After r m s μ = Agrees r.0 (with_lines m r.1.writes) (s ++ r.1.says) (events κ.isa μ r.1.did)

  abbrev pub Keeps : Step (State κ) → Type 0
  Keeps f = (c : State κ) (m : List (List ℕ)) (s : List (ℕ × ℕ)) (μ : Manual κ.isa) → Agrees c m s μ → After (f c) m s μ

  pub stay_keeps : Keeps (stay κ)
  unfolding with_lines events
  stay_keeps c m s μ a = rw (append_nil s) a

  pub then_after : (f g : Step (State κ)) (c : State κ) (m : List (List ℕ)) (s : List (ℕ × ℕ)) (μ : Manual κ.isa) → After (f c) m s μ → Keeps g → After (then f g c) m s μ
  then_after f g c m s μ a q = rw (with_lines_append, events_append, ← append_assoc) (q _ _ _ _ a)

  pub then_keeps : (f g : Step (State κ)) → Keeps f → Keeps g → Keeps (then f g)
  then_keeps f g p q c m s μ a = then_after f g c m s μ (p c m s μ a) q

  pub each_keeps : (f : ℕ → Step (State κ)) (j : ℕ) → ((k : ℕ) → k < j → Keeps (f k)) → Keeps (each f j)
  unfolding each
  each_keeps f zero h = stay_keeps
  each_keeps f (suc j) h = then_keeps (each f j) (f j) (each_keeps f j (λ k l. h k (omega arith))) (h j (omega arith))

  -- a change of lines alone
  pub moves_keeps : (c : State κ) (m : List (List ℕ)) (s : List (ℕ × ℕ)) (μ : Manual κ.isa) (l : Lines) (ws : List (ℕ × List ℕ)) → Agrees c m s μ →
      Safe c.size l (at_line (with_lines m ws)) (at_line μ.memory) → Memory (with_lines m ws) → After (moves κ l ws c) m s μ
  unfolding events
  moves_keeps c m s μ l ws a h r = record {
    safe = h;
    small = a.small;
    outside = with_lines_length m ws ∙ a.outside;
    inside = a.inside;
    many = a.many;
    cores = a.cores;
    said = append_nil s ∙ a.said;
    proper = r;
    words_true = a.words_true;
    sound = a.sound;
  }

  pub take_keeps : (k : ℕ) → Keeps (take_grant κ k)
  unfolding with_lines
  take_keeps k c m s μ a = moves_keeps c m s μ (takes k c.lines) [] a (take_safe c.size c.lines (at_line m) (at_line μ.memory) a.safe k) a.proper

  -- a line in a cache is one of the memory
  shape_size : (n q a : ℕ) (x : Slot) (e : Entry) → e ≡ tag x → Shape n q e → has x a ≡ true → a < n
  shape_size n q a x e i h u = grind arith

  pub slot_size : (c : State κ) (m : List (List ℕ)) (s : List (ℕ × ℕ)) (μ : Manual κ.isa) (q : ℕ) → Agrees c m s μ → Clear (c.lines.coming (q / 64)) q →
      (a : ℕ) → has (c.lines.slot q) a ≡ true → a < length m
  slot_size c m s μ q a k b u = rw a.outside (shape_size c.size q b (view c.lines q) (c.lines.entry q) (a.safe.tidy.mirror q) (a.safe.tidy.shape q)
      (rw (clear_view c.lines.slot c.lines.coming q k) u))

  -- and its words are those of the machines' memory, so that memory stays one of words when it is written
  back_proper : (x : Slot) (m t : List (List ℕ)) → Good (at_line t) x → ((a : ℕ) → has x a ≡ true → a < length t) → Memory t → Memory m → Memory (with_lines m (back x))
  unfolding with_lines
  back_proper empty m t g h r q = q
  back_proper (holds a o true w) m t g h r q = memory_set m a w q (rw g.0 (memory_line t a r (h a (eqb_self a))))
  back_proper (holds a o false w) m t g h r q = q

  pub slot_proper : (c : State κ) (m : List (List ℕ)) (s : List (ℕ × ℕ)) (μ : Manual κ.isa) (q : ℕ) → Agrees c m s μ → Clear (c.lines.coming (q / 64)) q →
      Memory (with_lines m (back (c.lines.slot q)))
  slot_proper c m s μ q a k = back_proper (c.lines.slot q) m μ.memory (rw (clear_view c.lines.slot c.lines.coming q k) at (a.safe.coherent.good q))
      (λ b u. rw (a.inside, ← a.outside) (slot_size c m s μ q a k b u)) a.words_true a.proper

  pub back_keeps : (q : ℕ) (c : State κ) (m : List (List ℕ)) (s : List (ℕ × ℕ)) (μ : Manual κ.isa) → Agrees c m s μ → Clear (c.lines.coming (q / 64)) q → After (release κ q c) m s μ
  back_keeps q c m s μ a k = moves_keeps c m s μ (releases q c.lines) (back (c.lines.slot q)) a
      (rw (back_written (c.lines.slot q) m (slot_size c m s μ q a k)) (release_safe c.size c.lines (at_line m) (at_line μ.memory) a.safe q k)) (slot_proper c m s μ q a k)

  pub weaken_keeps : (q : ℕ) (c : State κ) (m : List (List ℕ)) (s : List (ℕ × ℕ)) (μ : Manual κ.isa) → Agrees c m s μ → Clear (c.lines.coming (q / 64)) q → After (downgrade κ q c) m s μ
  weaken_keeps q c m s μ a k = moves_keeps c m s μ (lowers q c.lines) (back (c.lines.slot q)) a
      (rw (back_written (c.lines.slot q) m (slot_size c m s μ q a k)) (lower_safe c.size c.lines (at_line m) (at_line μ.memory) a.safe q k)) (slot_proper c m s μ q a k)

  -- a request waits in the queue again
  pub requeue_keeps : (j a : ℕ) (o : Bool) (p : ℕ) (c : State κ) (m : List (List ℕ)) (s : List (ℕ × ℕ)) (μ : Manual κ.isa) → Agrees c m s μ →
      Asks c.size c.lines.entry c.lines.coming j a p → After (requeue κ j (wants a o p probing) c) m s μ
  unfolding with_lines
  requeue_keeps j a o p c m s μ g f = moves_keeps c m s μ (asks j (wants a o p queued) c.lines) [] g
      (ask_safe c.size c.lines (at_line m) (at_line μ.memory) g.safe j (wants a o p queued) f (λ b q e. absurd (false≢true e)) (λ i b e. absurd (false≢true e))) g.proper

  -- the directory's test of eight places
  pub home_of : (n a p : ℕ) (e : Entry) → Shape n p e → held e a ≡ true → (p < 256) × ((p / 2) % 32 ≡ a % 32)
  home_of n a p e s h = grind arith

  even_place : (a j p : ℕ) → (p / 2) % 32 ≡ a % 32 → p / 64 ≡ j → eqb (p % 2) 0 ≡ true → p ≡ home j a
  even_place a j p h l e = let z : p % 2 ≡ 0 = same (p % 2) 0 e in omega arith

  odd_place : (a j p : ℕ) → (p / 2) % 32 ≡ a % 32 → p / 64 ≡ j → eqb (p % 2) 0 ≡ false → p ≡ suc (home j a)
  odd_place a j p h l e = let z : p % 2 ≢ 0 = grind arith in omega arith

  pub which_place : (a j p : ℕ) → (p / 2) % 32 ≡ a % 32 → p / 64 ≡ j → (p ≡ home j a) ⊎ (p ≡ suc (home j a))
  which_place a j p h l = by_test (eqb (p % 2) 0) (λ e. inl (even_place a j p h l e)) (λ e. inr (odd_place a j p h l e))

  free_at : (e : ℕ → Entry) (a x p : ℕ) (b : Bool) → pick (held (e x) a) false (pick (held (e (suc x)) a) false b) ≡ true → (p ≡ x) ⊎ (p ≡ suc x) → held (e p) a ≡ false
  free_at e a x p b f (inl i) = rw i (grind arith)
  free_at e a x p b f (inr i) = rw i (grind arith)

  free_rest : (x y b : Bool) → pick x false (pick y false b) ≡ true → b ≡ true
  free_rest x y b f = grind arith

  last_below : (i j : ℕ) → ltb i j ≡ false → i < suc j → i ≡ j
  last_below i j e l = grind arith

  pub free_says : (e : ℕ → Entry) (a j p : ℕ) → free e a j ≡ true → (p / 2) % 32 ≡ a % 32 → p / 64 < j → held (e p) a ≡ false
  unfolding free
  free_says e a zero p f h l = absurd (omega arith)
  free_says e a (suc j) p f h l = by_test (ltb (p / 64) j)
      (λ t. free_says e a j p (free_rest (held (e (home j a)) a) (held (e (suc (home j a))) a) (free e a j) f) h (less (p / 64) j t))
      (λ t. free_at e a (home j a) p (free e a j) f (which_place a j p h (last_below (p / 64) j t l)))

  -- so nobody but place q has the line
  free_all : (n q a : ℕ) (e : ℕ → Entry) → ((p : ℕ) → Shape n p (e p)) → free (put e q nobody) a 4 ≡ true → (r : ℕ) → eqb r q ≡ false → held (e r) a ≡ false
  free_all n q a e sh f r i = by_test (held (e r) a)
      (λ u. let z = home_of n a r (e r) (sh r) u in other i (free_says (put e q nobody) a 4 r f z.1 (omega arith))) (λ u. u)
    where
      other : eqb r q ≡ false → held (put e q nobody r) a ≡ false → held (e r) a ≡ false
      other i = rw i (λ z. z)

  is_probing : (r : Request) (a : ℕ) (o : Bool) (p : ℕ) → r ≡ wants a o p probing → busy r a ≡ true
  is_probing r a o p e = grind arith

  pub hand_on_keeps : (q a j : ℕ) (c : State κ) (m : List (List ℕ)) (s : List (ℕ × ℕ)) (μ : Manual κ.isa) → Agrees c m s μ →
      Clear (c.lines.coming (q / 64)) q → has (c.lines.slot q) a ≡ true → After (hand_on κ q a j (c.lines.request j) c) m s μ
  unfolding with_lines
  hand_on_keeps q a j c m s μ g k u = go (c.lines.request j) refl (g.safe.tidy.fair j)
    where
      go : (r : Request) → c.lines.request j ≡ r → Fair c.size c.lines.entry c.lines.coming j r → After (hand_on κ q a j r c) m s μ
      go idle e f = back_keeps q c m s μ g k
      go (wants b o p queued) e f = back_keeps q c m s μ g k
      go (wants b o p fetching) e f = back_keeps q c m s μ g k
      go (wants b o p probing) e f = by_test {P = After (hand_on κ q a j (wants b o p probing) c) m s μ} (eqb b a && free (put c.lines.entry q nobody) a 4)
          (λ t. rw t (moves_keeps c m s μ (grants j p (raised (c.lines.slot q)) (releases q c.lines)) [] g
          (pass_safe c.size c.lines (at_line m) (at_line μ.memory) g.safe q j p a o k u (rw (same b a (both t).0) at f) (is_probing (c.lines.request j) a o p (rw (same b a (both t).0) at e))
          (free_all c.size q a c.lines.entry g.safe.tidy.shape (both t).1)) g.proper))
          (λ t. rw t (rw (with_lines_append, events_append, ← append_assoc)
          (requeue_keeps j b o p _ _ _ _ (back_keeps q c m s μ g k) (release_fair c.size q j (wants b o p probing) c.lines k g.safe.tidy f))))

  -- after the owner let go of writing, nobody owns the line
  unowned_at : (e : ℕ → Entry) (v w x : Slot) (q r a : ℕ) → e r ≡ tag v → has w a ≡ true → (owns v a ≡ true → has w a ≡ true → r ≡ q) → owned (put e q (tag (lowered x)) r) a ≡ false
  unowned_at e v w x q r a i u h = grind arith

  pub good_words : (t : ℕ → List ℕ) (x : Slot) (a : ℕ) → Good t x → has x a ≡ true → words x ≡ t a
  good_words t x a g u = grind arith

  pub share_on_keeps : (q a j : ℕ) (c : State κ) (m : List (List ℕ)) (s : List (ℕ × ℕ)) (μ : Manual κ.isa) → Agrees c m s μ →
      Clear (c.lines.coming (q / 64)) q → has (c.lines.slot q) a ≡ true → After (share_on κ q a j (c.lines.request j) c) m s μ
  unfolding with_lines events
  share_on_keeps q a j c m s μ g k u = go (c.lines.request j) refl (g.safe.tidy.fair j)
    where
      here : has (view c.lines q) a ≡ true
      here = rw (clear_view c.lines.slot c.lines.coming q k) u

      right : words (c.lines.slot q) ≡ at_line μ.memory a
      right = good_words (at_line μ.memory) (c.lines.slot q) a (rw (clear_view c.lines.slot c.lines.coming q k) at (g.safe.coherent.good q)) u

      go : (r : Request) → c.lines.request j ≡ r → Fair c.size c.lines.entry c.lines.coming j r → After (share_on κ q a j r c) m s μ
      go idle e f = weaken_keeps q c m s μ g k
      go (wants b o p queued) e f = weaken_keeps q c m s μ g k
      go (wants b o p fetching) e f = weaken_keeps q c m s μ g k
      go (wants b o p probing) e f = by_test {P = After (share_on κ q a j (wants b o p probing) c) m s μ} (eqb b a && not o)
          (λ t. rw t (rw (with_lines_append, events_append, ← append_assoc)
          (moves_keeps _ _ _ _ _ [] (weaken_keeps q c m s μ g k)
          (share_safe c.size (lowers q c.lines) _ (at_line μ.memory) (weaken_keeps q c m s μ g k).safe j p a (words (c.lines.slot q))
          (lower_fair c.size q j (wants a o p probing) c.lines k g.safe.tidy (rw (same b a (both t).0) at f)) (is_probing (c.lines.request j) a o p (rw (same b a (both t).0) at e))
          (λ r. unowned_at c.lines.entry (view c.lines r) (view c.lines q) (c.lines.slot q) q r a (g.safe.tidy.mirror r) here (g.safe.coherent.single r q a)) right) (slot_proper c m s μ q g k))))
          (λ t. rw t (rw (with_lines_append, events_append, ← append_assoc)
          (requeue_keeps j b o p _ _ _ _ (weaken_keeps q c m s μ g k) (lower_fair c.size q j (wants b o p probing) c.lines k g.safe.tidy f))))

  -- an instruction is over
  core_put : (f : ℕ → Core κ.isa) (cpu : ℕ → κ.isa.Cpu) (on : ℕ → Bool) (k : ℕ) (x : κ.isa.Cpu) (b : Bool) (j : ℕ) → f j ≡ record { cpu = cpu j; on = on j } →
      put f k (record { cpu = x; on = b }) j ≡ record { cpu = put cpu k x j; on = put on k b j }
  core_put f cpu on k x b j h = by_test (eqb j k) (λ e. rw e) (λ e. rw e h)

  -- what a store wants: the cache has the line, to write
  abbrev pub Storable : State κ → ℕ → Did κ.isa.Cpu → Type 0
  Storable c k (goes x) = Unit {0}
  Storable c k (says v x) = Unit {0}
  Storable c k stops = Unit {0}
  Storable c k (stores y v x) = (p : ℕ) × (find c.lines.slot k (y / 8) ≡ found p) × (owns (c.lines.slot p) (y / 8) ≡ true) × (y / 8 < c.size)

  after_size : (μ : Manual κ.isa) (k : ℕ) (d : Did κ.isa.Cpu) → length (after κ.isa μ k d).memory ≡ length μ.memory
  unfolding after with_word
  after_size μ k (goes c) = refl
  after_size μ k (stores a x c) = length-set μ.memory (a / 8) _
  after_size μ k (says x c) = refl
  after_size μ k stops = refl

  after_said : (μ : Manual κ.isa) (k : ℕ) (d : Did κ.isa.Cpu) → μ.said ++ spoken k d ≡ (after κ.isa μ k d).said
  unfolding after
  after_said μ k (goes c) = append_nil μ.said
  after_said μ k (stores a x c) = append_nil μ.said
  after_said μ k (says x c) = refl
  after_said μ k stops = append_nil μ.said

  module _ (k : ℕ) (c : State κ) (m : List (List ℕ)) (s : List (ℕ × ℕ)) (μ : Manual κ.isa) (g : Agrees c m s μ) (l : k < c.count) where
    -- the words that a cache has are the manual's
    pub slot_words : (p a : ℕ) → has (c.lines.slot p) a ≡ true → words (c.lines.slot p) ≡ at_line μ.memory a
    slot_words p a u = good_words (at_line μ.memory) (c.lines.slot p) a
        (rw (clear_view c.lines.slot c.lines.coming p (clear_here c.lines.slot (c.lines.coming (p / 64)) p a u (g.safe.tidy.bound (p / 64)))) at (g.safe.coherent.good p)) u

    after_safe : (d : Did κ.isa.Cpu) → Storable c k d → Safe c.size (lines_after k d c.lines) (at_line m) (at_line (after κ.isa μ k d).memory)
    unfolding after
    after_safe (goes x) z = g.safe
    after_safe (says v x) z = g.safe
    after_safe stops z = g.safe
    after_safe (stores y v x) z = rw (z.1, line_word μ.memory y v (rw g.inside z.3), ← (slot_words z.0 (y / 8) (owns_has (c.lines.slot z.0) (y / 8) z.2)))
        (fill_safe c.size c.lines (at_line m) (at_line μ.memory) g.safe z.0 (y / 8) (set (words (c.lines.slot z.0)) (y % 8) v) z.2)

    -- a word that is stored has 32 bits, and registers stay sound
    after_true : (d : Did κ.isa.Cpu) → Storable c k d → Leaves laws.Sound d → Memory (after κ.isa μ k d).memory
    unfolding after
    after_true (goes x) z p = g.words_true
    after_true (says v x) z p = g.words_true
    after_true stops z p = g.words_true
    after_true (stores y v x) z p = memory_store μ.memory y v g.words_true (rw g.inside z.3) p.0

    after_sound : (d : Did κ.isa.Cpu) → Leaves laws.Sound d → laws.Sound (cpu_after (c.cpu k) d)
    after_sound (goes x) p = p
    after_sound (says v x) p = p
    after_sound stops p = g.sound k l
    after_sound (stores y v x) p = p.1

    pub finish_keeps : (d : Did κ.isa.Cpu) → c.on k ≡ true → κ.isa.one (length μ.memory) (c.cpu k) (word μ.memory) ≡ d → Storable c k d → After (execute κ k d c) m s μ
    unfolding with_lines
    finish_keeps d o e z = let p : Leaves laws.Sound d = subst (Leaves laws.Sound) e (rw g.inside (laws.one_sound c.size (c.cpu k) (word μ.memory) (g.sound k l) (memory_words μ.memory g.words_true))) in
        rw (did_step κ.isa μ k d (ap (λ (x : Core κ.isa). x.on) (g.cores k l) ∙ o) (rw (g.cores k l) e)) (record {
          safe = after_safe d z;
          small = g.small;
          outside = g.outside;
          inside = after_size μ k d ∙ g.inside;
          many = after_many κ.isa μ k d ∙ g.many;
          cores = λ j h. after_core κ.isa μ k d j (rw g.many l)
              ∙ rw (g.cores k l) (core_put (core κ.isa μ) c.cpu c.on k (cpu_after (c.cpu k) d) (on_after d) j (g.cores j h));
          said = rw g.said (after_said μ k d);
          proper = g.proper;
          words_true = after_true d z p;
          sound = λ j h. put_holds laws.Sound c.cpu k (cpu_after (c.cpu k) d) j (after_sound d p) (g.sound j h);
        })

    pub interrupt_keeps : c.on k ≡ true → After (take_interrupt κ k c) m s μ
    unfolding with_lines core
    interrupt_keeps o = rw (did_interrupt κ.isa μ k (ap (λ (x : Core κ.isa). x.on) (g.cores k l) ∙ o), g.cores k l) (record {
      safe = g.safe;
      small = g.small;
      outside = g.outside;
      inside = g.inside;
      many = length-set μ.cores k _ ∙ g.many;
      cores = λ j h. set_put μ.cores k _ _ j (rw g.many l) ∙ core_put (core κ.isa μ) c.cpu c.on k (κ.isa.enters (c.cpu k)) true j (g.cores j h);
      said = append_nil s ∙ g.said;
      proper = g.proper;
      words_true = g.words_true;
      sound = λ j h. put_holds laws.Sound c.cpu k (κ.isa.enters (c.cpu k)) j (laws.enters_sound (c.cpu k) (g.sound k l)) (g.sound j h);
    })
