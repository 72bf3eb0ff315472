-- What the cores and the directory do keeps the chip in agreement.
use Rattle.std.proofs.Common.{◌≡◌, ℕ, zero, suc, ◌/◌, ◌%◌, ◌<◌, ◌≤◌, Bool, true, false, ◌&&◌, eqb, ◌⊎◌, List, [], ◌∷◌, sym, refl, ap, ◌∙◌, inl, inr, arith}
use mathlib.Core.Bool.{false≢true}
use Rattle.rv32.specs.Did.{Did, goes, says, stops, stores}
use Rattle.rv32.specs.declared.core_state.Need.{Need}
use Rattle.rv32.specs.declared.core_state.Need.TheVariants.{Nothing, Read, Write}
use Rattle.cores.specs.Board.{with_lines, Out}
use Rattle.cores.specs.Loop.{silent}
use Rattle.cores.specs.Machines.{Manual, events, pick, word}
use Rattle.cores.specs.Put.{put}
use Rattle.cores.proofs.Basics.{by_test, same, choose}
use Rattle.cached.specs.Soc.{State, run_core, execute, moves, lacked, send_request, requeue, start_request, write_back, attempt, startable, can_start, way_for, may_send}
use Rattle.cached.specs.Coherent.{Asks, Clear, Fair, Safe, view, Bound}
use Rattle.directory.specs.Directory.{Entry, Request, Stage, busy, fetches, fetching, free, held, idle, is_idle, nobody, probing, queued, unhurried, wants}
use Rattle.cached.specs.Kind.{Agree, Kind, Laws, Within, code, operand}
use Rattle.cached.specs.Lines.{Lines, asks, deliver_all, deliver_one, delivered, releases}
use Rattle.link.specs.Messages.{Grant, is_quiet, quiet}
use Rattle.cache.specs.Slots.{home, lacks, Found, Lack, Slot, back, cached, chosen, find, first, found, has, is_empty, missing, owns, ready, seek, to_read, to_write}
use Rattle.cached.proofs.Agrees.{After, Agrees, Storable, back_keeps, finish_keeps, free_says, home_of, interrupt_keeps, moves_keeps, requeue_keeps, slot_words, which_place, stay_keeps, slot_proper}
use Rattle.cached.proofs.Base.{clash, both, three}
use Rattle.cached.proofs.Facts.{not_ready, quiet_is, tag_held}
use Rattle.cached.proofs.Lists.{at_line}
use Rattle.cached.proofs.Safe.{ask_safe, own_safe}

-- a line comes from memory
is_fetching : (r : Request) (a : ℕ) (o : Bool) (p : ℕ) → r ≡ wants a o p fetching → (fetches r a ≡ true) × (busy r a ≡ true)
is_fetching r a o p e = grind arith

pub delivered_safe : (n k a : ℕ) (w : List ℕ) (l : Lines) (m t : ℕ → List ℕ) → w ≡ m a → Safe n l m t → Safe n (delivered k a w (l.request k) l) m t
delivered_safe n k a w l m t i s = go (l.request k) refl (s.tidy.fair k)
  where
    go : (r : Request) → l.request k ≡ r → Fair n l.entry l.coming k r → Safe n (delivered k a w r l) m t
    go idle e f = s
    go (wants b o p queued) e f = s
    go (wants b o p probing) e f = s
    go (wants b o p fetching) e f = let z : (fetches (l.request k) b ≡ true) × (busy (l.request k) b ≡ true) = is_fetching (l.request k) b o p e in
        by_test {P = Safe n (delivered k a w (wants b o p fetching) l) m t} (eqb b a)
        (λ u. rw u (own_safe n l m t s k p b w f z.1 (λ q. s.tidy.unheld k b q z.0) (i ∙ ap m (sym (same b a u))))) (λ u. rw u s)

pub deliver_one_safe : (n k a : ℕ) (w : List ℕ) (l : Lines) (m t : ℕ → List ℕ) → w ≡ m a → Safe n l m t → Safe n (deliver_one k a w l) m t
unfolding deliver_one
deliver_one_safe n zero a w l m t i s = s
deliver_one_safe n (suc k) a w l m t i s = delivered_safe n k a w (deliver_one k a w l) m t i (deliver_one_safe n k a w l m t i s)

-- the lines that come are those of memory
abbrev pub True : (ℕ → List ℕ) → List (ℕ × List ℕ) → Type 0
True m [] = Unit {0}
True m (x ∷ xs) = (x.1 ≡ m x.0) × True m xs

pub deliver_safe : (n k : ℕ) (xs : List (ℕ × List ℕ)) (l : Lines) (m t : ℕ → List ℕ) → True m xs → Safe n l m t → Safe n (deliver_all k xs l) m t
unfolding deliver_all
deliver_safe n k [] l m t i s = s
deliver_safe n k (x ∷ xs) l m t i s = deliver_safe n k xs (deliver_one k x.0 x.1 l) m t i.1 (deliver_one_safe n k x.0 x.1 l m t i.0 s)

-- what is found in a cache
pub pick_found : (b c : Bool) (x y p : ℕ) → pick b (found x) (pick c (found y) missing) ≡ found p → ((p ≡ x) × (b ≡ true)) ⊎ ((p ≡ y) × (c ≡ true))
pick_found true c x y p e = inl (cc, refl)
pick_found false true x y p e = inr (cc, refl)
pick_found false false x y p e = let z : ◌≡◌ {A = ℕ} 0 1 = cc in absurd (omega arith)

pub pick_missing : (b c : Bool) (x y : ℕ) → pick b (found x) (pick c (found y) missing) ≡ missing → (b ≡ false) × (c ≡ false)
pick_missing true c x y e = let z : ◌≡◌ {A = ℕ} 0 1 = cc in absurd (omega arith)
pick_missing false true x y e = let z : ◌≡◌ {A = ℕ} 0 1 = cc in absurd (omega arith)
pick_missing false false x y e = (refl, refl)

pub home_place : (k a p : ℕ) → (p ≡ home k a) ⊎ (p ≡ suc (home k a)) → (p / 64 ≡ k) × ((p / 2) % 32 ≡ a % 32)
home_place k a p (inl e) = (omega arith, omega arith)
home_place k a p (inr e) = (omega arith, omega arith)

pub find_has : (f : ℕ → Slot) (k a p : ℕ) → find f k a ≡ found p → has (f p) a ≡ true
find_has f k a p e = elim (pick_found (has (f (home k a)) a) (has (f (suc (home k a))) a) (home k a) (suc (home k a)) p e) [ inl z ↦ rw z.0 z.1 | inr z ↦ rw z.0 z.1 ]

pub find_place : (f : ℕ → Slot) (k a p : ℕ) → find f k a ≡ found p → (p / 64 ≡ k) × ((p / 2) % 32 ≡ a % 32)
find_place f k a p e = home_place k a p (elim (pick_found (has (f (home k a)) a) (has (f (suc (home k a))) a) (home k a) (suc (home k a)) p e) [ inl z ↦ inl z.0 | inr z ↦ inr z.0 ])

-- the place that is chosen for a line is one of the core's
pub chosen_core : (f : ℕ → Slot) (k a : ℕ) (b : Bool) → chosen (find f k a) k a b / 64 ≡ k
chosen_core f k a b = go (find f k a) refl
  where
    go : (r : Found) → find f k a ≡ r → chosen r k a b / 64 ≡ k
    go (found p) e = (find_place f k a p e).0
    go missing e = choose (λ z. z / 64 ≡ k) b _ _ (λ u. (home_place k a (home k a) (inl refl)).0) (λ u. (home_place k a (suc (home k a)) (inr refl)).0)

pub first_ready : (x y : Lack) → first x y ≡ ready → (x ≡ ready) × (y ≡ ready)
first_ready ready y e = (refl, e)
first_ready (lacks a o) y e = not_ready a o e

module _ (κ : Kind) (laws : Laws κ) where
  module _ (c : State κ) (m : List (List ℕ)) (s : List (ℕ × ℕ)) (μ : Manual κ.isa) (g : Agrees κ laws c m s μ) where
    pub stay_here : After κ laws (c, silent) m s μ
    stay_here = stay_keeps κ laws c m s μ g

    -- a place that is not empty is handed back
    pub empty_clear : (f : ℕ → Slot) (x : Grant) (q : ℕ) → is_empty (f q) ≡ false → Bound f (q / 64) x → Clear x q
    empty_clear f x q e b = grind arith

    pub sweep_keeps : (q : ℕ) → After κ laws (write_back κ q c) m s μ
    sweep_keeps q = by_test {P = After κ laws (write_back κ q c) m s μ} (is_empty (c.lines.slot q)) (λ u. rw u stay_here)
        (λ u. rw u (back_keeps κ laws q c m s μ g (empty_clear c.lines.slot (c.lines.coming (q / 64)) q u (g.safe.tidy.bound (q / 64)))))

    -- a request that probes waits for its start again
    pub requeue_any : (j : ℕ) → After κ laws (requeue κ j (c.lines.request j) c) m s μ
    requeue_any j = go (c.lines.request j) (g.safe.tidy.fair j)
      where
        go : (r : Request) → Fair c.size c.lines.entry c.lines.coming j r → After κ laws (requeue κ j r c) m s μ
        go idle f = stay_here
        go (wants a o p queued) f = stay_here
        go (wants a o p fetching) f = stay_here
        go (wants a o p probing) f = requeue_keeps κ laws j a o p c m s μ g f

    -- a request is started
    busy_queued : (r : Request) (a b : ℕ) (o : Bool) (p : ℕ) (st : Stage) → busy (wants a o p st) b ≡ true → b ≡ a
    busy_queued r a b o p st e = grind arith

    unhurried_step : (r : ℕ → Request) (a j i : ℕ) (x : Bool) → pick (busy (r j) a) false x ≡ true → i < suc j → (x ≡ true → i < j → busy (r i) a ≡ false) → busy (r i) a ≡ false
    unhurried_step r a j i x e h ih = grind arith

    unhurried_says : (r : ℕ → Request) (a j i : ℕ) → unhurried r a j ≡ true → i < j → busy (r i) a ≡ false
    unfolding unhurried
    unhurried_says r a zero i e h = absurd (omega arith)
    unhurried_says r a (suc j) i e h = unhurried_step r a j i (unhurried r a j) e h (λ u. unhurried_says r a j i u)

    -- who asks is one of four
    asks_small : (r : Request) (j a : ℕ) → Fair c.size c.lines.entry c.lines.coming j r → busy r a ≡ true → j < 4
    asks_small idle j a f e = absurd (false≢true e)
    asks_small (wants b o p st) j a f e = let z : p / 64 ≡ j = f.mine in let y : p < 256 = f.home.2 in omega arith

    nobody_busy : (a j : ℕ) → unhurried c.lines.request a 4 ≡ true → busy (c.lines.request j) a ≡ true → {P : Type 0} → P
    nobody_busy a j e u = clash u (unhurried_says c.lines.request a 4 j e (asks_small (c.lines.request j) j a (g.safe.tidy.fair j) u))

    free_everywhere : (a p : ℕ) → free c.lines.entry a 4 ≡ true → held (c.lines.entry p) a ≡ false
    free_everywhere a p f = by_test (held (c.lines.entry p) a)
        (λ u. let z = home_of κ laws c.size a p (c.lines.entry p) (g.safe.tidy.shape p) u in free_says κ laws c.lines.entry a 4 p f z.1 (omega arith)) (λ u. u)

    -- a request that can be started: no other for its line is under way
    start_alone : (j a p : ℕ) (o : Bool) → startable κ c j (wants a o p queued) ≡ true → unhurried c.lines.request a 4 ≡ true
    start_alone j a p o h = (both (both h).1).0

    pub start_keeps : (j : ℕ) → can_start κ c j ≡ true → After κ laws (start_request κ j (c.lines.request j) c) m s μ
    unfolding with_lines events
    start_keeps j h = go (c.lines.request j) (g.safe.tidy.fair j) h
      where
        ask : (a : ℕ) (o : Bool) (p : ℕ) (st : Stage) → Asks c.size c.lines.entry c.lines.coming j a p → unhurried c.lines.request a 4 ≡ true →
            ((b q : ℕ) → fetches (wants a o p st) b ≡ true → held (c.lines.entry q) b ≡ false) → After κ laws (moves κ (asks j (wants a o p st) c.lines) [] c) m s μ
        ask a o p st f u v = moves_keeps κ laws c m s μ (asks j (wants a o p st) c.lines) [] g
            (ask_safe c.size c.lines (at_line m) (at_line μ.memory) g.safe j (wants a o p st) f v
            (λ i b x y. nobody_busy a i u (rw (busy_queued idle a b o p st x) at y))) g.proper

        go : (r : Request) → Fair c.size c.lines.entry c.lines.coming j r → startable κ c j r ≡ true → After κ laws (start_request κ j r c) m s μ
        go idle f h = stay_here
        go (wants a o p probing) f h = stay_here
        go (wants a o p fetching) f h = stay_here
        go (wants a o p queued) f h = choose (λ (r : State κ × Out). After κ laws r m s μ) (free c.lines.entry a 4) _ _
            (λ v. ask a o p fetching f (start_alone j a p o h) (λ b q x. rw (busy_queued idle a b o p fetching x) (free_everywhere a q v)))
            (λ v. let z = ask a o p probing f (start_alone j a p o h) (λ b q x. absurd (false≢true x)) in
            record { safe = z.safe; small = z.small; outside = z.outside; inside = z.inside; many = z.many; cores = z.cores; said = z.said; proper = z.proper; words_true = z.words_true; sound = z.sound })

  module _ (k : ℕ) (c : State κ) (m : List (List ℕ)) (s : List (ℕ × ℕ)) (μ : Manual κ.isa) (g : Agrees κ laws c m s μ) (l : k < c.count) where
    found_word : (p x : ℕ) → find c.lines.slot k (x / 8) ≡ found p → cached c.lines.slot k x ≡ word μ.memory x
    unfolding word
    found_word p x e = rw (e, slot_words κ laws k c m s μ g l p (x / 8) (find_has c.lines.slot k (x / 8) p e))

    seek_agree : (t : Need) → seek c.lines.slot k t ≡ ready → Agree (cached c.lines.slot k) (word μ.memory) t
    seek_agree Nothing e = tt
    seek_agree (Read x) e = go (find c.lines.slot k (x / 8)) refl e
      where
        go : (r : Found) → find c.lines.slot k (x / 8) ≡ r → to_read r x ≡ ready → cached c.lines.slot k x ≡ word μ.memory x
        go missing i e = not_ready (x / 8) false e
        go (found p) i e = found_word p x i
    seek_agree (Write x) e = go (find c.lines.slot k (x / 8)) refl e
      where
        go : (r : Found) → find c.lines.slot k (x / 8) ≡ r → to_write c.lines.slot r x ≡ ready → cached c.lines.slot k x ≡ word μ.memory x
        go missing i e = not_ready (x / 8) true e
        go (found p) i e = found_word p x i

    seek_owns : (y : ℕ) → y / 8 < c.size → seek c.lines.slot k (Write y) ≡ ready → (p : ℕ) × (find c.lines.slot k (y / 8) ≡ found p) × (owns (c.lines.slot p) (y / 8) ≡ true) × (y / 8 < c.size)
    seek_owns y b e = go (find c.lines.slot k (y / 8)) refl e
      where
        owned_now : (b : Bool) (a : ℕ) → pick b ready (lacks a true) ≡ ready → b ≡ true
        owned_now true a e = refl
        owned_now false a e = not_ready a true e

        go : (r : Found) → find c.lines.slot k (y / 8) ≡ r → to_write c.lines.slot r y ≡ ready → (p : ℕ) × (find c.lines.slot k (y / 8) ≡ found p) × (owns (c.lines.slot p) (y / 8) ≡ true) × (y / 8 < c.size)
        go missing i e = not_ready (y / 8) true e
        go (found p) i e = (p, i, owned_now (owns (c.lines.slot p) (y / 8)) (y / 8) e, b)

    storable : (d : Did κ.isa.Cpu) → seek c.lines.slot k (operand κ c.size (c.cpu k) (cached c.lines.slot k)) ≡ ready →
        κ.isa.one c.size (c.cpu k) (cached c.lines.slot k) ≡ d → Storable κ laws c k d
    storable (goes x) e i = tt
    storable (says v x) e i = tt
    storable stops e i = tt
    storable (stores y v x) e i =
        let j : operand κ c.size (c.cpu k) (cached c.lines.slot k) ≡ Write y = laws.storing c.size (c.cpu k) (cached c.lines.slot k) y v x i in
        seek_owns y (rw j at (laws.operand_within c.size (c.cpu k) (cached c.lines.slot k))) (rw j at e)

    pub do_keeps : c.on k ≡ true → lacked κ c k ≡ ready →
        After κ laws (execute κ k (κ.isa.one c.size (c.cpu k) (cached c.lines.slot k)) c) m s μ
    do_keeps o e =
        let z = first_ready (seek c.lines.slot k (code κ c.size (c.cpu k))) (seek c.lines.slot k (operand κ c.size (c.cpu k) (cached c.lines.slot k))) e in
        finish_keeps κ laws k c m s μ g l (κ.isa.one c.size (c.cpu k) (cached c.lines.slot k)) o
        (rw g.inside (sym (laws.alike c.size (c.cpu k) (cached c.lines.slot k) (word μ.memory) (seek_agree (code κ c.size (c.cpu k)) z.0) (seek_agree _ z.1))))
        (storable (κ.isa.one c.size (c.cpu k) (cached c.lines.slot k)) z.1 refl)

    -- the place that is chosen for a line is one of the core's two for it
    chosen_place : (a : ℕ) (b : Bool) (r : Found) → find c.lines.slot k a ≡ r → (chosen r k a b / 64 ≡ k) × ((chosen r k a b / 2) % 32 ≡ a % 32)
    chosen_place a b (found p) e = find_place c.lines.slot k a p e
    chosen_place a true missing e = home_place k a (home k a) (inl refl)
    chosen_place a false missing e = home_place k a (suc (home k a)) (inr refl)

    quiet_view : (q : ℕ) → c.lines.coming k ≡ quiet → q / 64 ≡ k → view c.lines q ≡ c.lines.slot q
    quiet_view q e i = rw (i, e)

    quiet_clear : (q : ℕ) → c.lines.coming k ≡ quiet → q / 64 ≡ k → Clear (c.lines.coming (q / 64)) q
    quiet_clear q e i = rw (i, e) tt

    differ : (q p : ℕ) → eqb q p ≡ false → p ≡ q → ⊥
    differ q p e i = grind arith

    -- once that place is handed back, the core does not have the line
    gone : (a q : ℕ) (b : Bool) → c.lines.coming k ≡ quiet → q / 64 ≡ k → eqb q (chosen (find c.lines.slot k a) k a b) ≡ false → held (c.lines.entry q) a ≡ false
    gone a q b e i j = by_test (held (c.lines.entry q) a) (λ u. go u (find c.lines.slot k a) refl) (λ u. u)
      where
        here : held (c.lines.entry q) a ≡ true → has (view c.lines q) a ≡ true
        here u = tag_held (view c.lines q) (c.lines.entry q) a (g.safe.tidy.mirror q) u

        at_home : (f : ℕ → Slot) → has (f (home k a)) a ≡ false → has (f (suc (home k a))) a ≡ false → (q ≡ home k a) ⊎ (q ≡ suc (home k a)) → has (f q) a ≡ false
        at_home f x y (inl z) = rw z x
        at_home f x y (inr z) = rw z y

        go : held (c.lines.entry q) a ≡ true → (r : Found) → find c.lines.slot k a ≡ r → held (c.lines.entry q) a ≡ false
        go u (found p) z =
            let h : has (view c.lines p) a ≡ true = rw (quiet_view p e (find_place c.lines.slot k a p z).0) (find_has c.lines.slot k a p z) in
            absurd (differ q p (rw z at j) (g.safe.coherent.once p q a ((find_place c.lines.slot k a p z).0 ∙ sym i) h (here u)))
        go u missing z =
            let w = pick_missing (has (c.lines.slot (home k a)) a) (has (c.lines.slot (suc (home k a))) a) (home k a) (suc (home k a)) z in
            clash (rw (quiet_view q e i) at (here u))
            (at_home c.lines.slot w.0 w.1 (which_place κ laws a k q (home_of κ laws c.size a q (c.lines.entry q) (g.safe.tidy.shape q) u).1 i))

    put_held : (e : ℕ → Entry) (p q a : ℕ) → (eqb q p ≡ false → held (e q) a ≡ false) → held (put e p nobody q) a ≡ false
    put_held e p q a h = by_test (eqb q p) (λ u. rw u) (λ u. rw u (h u))

    put_here : (e : ℕ → Entry) (p : ℕ) → put e p nobody p ≡ nobody
    put_here e p = grind arith

    pub request_keeps : (a : ℕ) (o b : Bool) → a < c.size → c.lines.coming k ≡ quiet →
        After κ laws (send_request κ k a o (chosen (find c.lines.slot k a) k a b) c) m s μ
    unfolding events
    request_keeps a o b h e =
        let p : ℕ = chosen (find c.lines.slot k a) k a b in
        let i : (p / 64 ≡ k) × ((p / 2) % 32 ≡ a % 32) = chosen_place a b (find c.lines.slot k a) refl in
        moves_keeps κ laws c m s μ (asks k (wants a o p queued) (releases p c.lines)) (back (c.lines.slot p)) g
        (ask_safe c.size (releases p c.lines) _ (at_line μ.memory) (back_keeps κ laws p c m s μ g (quiet_clear p e i.0)).safe k (wants a o p queued)
        (record { mine = i.0; home = (h, i.1, small_place p i.0); vacant = put_here c.lines.entry p; lacks = λ q j. put_held c.lines.entry p q a (gone a q b e j); still = e })
        (λ x y z. absurd (false≢true z)) (λ x y z. absurd (false≢true z))) (slot_proper κ laws c m s μ p g (quiet_clear p e i.0))
      where
        small_place : (p : ℕ) → p / 64 ≡ k → p < 256
        small_place p i = let z : c.count ≤ 4 = g.small in omega arith

    -- the line that is lacked is one of the memory
    lacks_line : {a b : ℕ} {o u : Bool} → lacks a o ≡ lacks b u → a ≡ b
    lacks_line e = cc

    read_within : (t : ℕ) (r : Found) (a : ℕ) (o : Bool) → t / 8 < c.size → to_read r t ≡ lacks a o → a < c.size
    read_within t missing a o h e = rw (← (lacks_line e)) h
    read_within t (found p) a o h e = not_ready a o (sym e)

    write_within : (t : ℕ) (r : Found) (a : ℕ) (o : Bool) → t / 8 < c.size → to_write c.lines.slot r t ≡ lacks a o → a < c.size
    write_within t missing a o h e = rw (← (lacks_line e)) h
    write_within t (found p) a o h e = by_test (owns (c.lines.slot p) (t / 8)) (λ u. not_ready a o (sym (rw u at e))) (λ u. rw (← (lacks_line (rw u at e))) h)

    seek_within : (t : Need) (a : ℕ) (o : Bool) → Within c.size t → seek c.lines.slot k t ≡ lacks a o → a < c.size
    seek_within Nothing a o h e = not_ready a o (sym e)
    seek_within (Read x) a o h e = read_within x (find c.lines.slot k (x / 8)) a o h e
    seek_within (Write x) a o h e = write_within x (find c.lines.slot k (x / 8)) a o h e

    first_within : (x y : Lack) (a : ℕ) (o : Bool) → ((b : ℕ) (u : Bool) → x ≡ lacks b u → b < c.size) → ((b : ℕ) (u : Bool) → y ≡ lacks b u → b < c.size) → first x y ≡ lacks a o → a < c.size
    first_within ready y a o f h e = h a o e
    first_within (lacks b u) y a o f h e = f a o e

    pub act_keeps : c.on k ≡ true → (up : Bool) → After κ laws (run_core κ k up c) m s μ
    act_keeps o up = choose (λ (r : State κ × Out). After κ laws r m s μ) (up && κ.isa.lets (c.cpu k)) _ _ (λ u. interrupt_keeps κ laws k c m s μ g l o) (λ u. go o (lacked κ c k) refl)
      where
        go : c.on k ≡ true → (r : Lack) → lacked κ c k ≡ r → After κ laws (attempt κ k r c) m s μ
        go o ready e = do_keeps o e
        go o (lacks a w) e = choose (λ (r : State κ × Out). After κ laws r m s μ) (may_send κ c k && (is_idle (c.lines.request k) && is_quiet (c.lines.coming k))) _ _
            (λ u. request_keeps a w (way_for κ c k a)
            (first_within (seek c.lines.slot k (code κ c.size (c.cpu k))) (seek c.lines.slot k (operand κ c.size (c.cpu k) (cached c.lines.slot k))) a w
            (λ x y z. seek_within (code κ c.size (c.cpu k)) x y (laws.code_within c.size (c.cpu k)) z)
            (λ x y z. seek_within _ x y (laws.operand_within c.size (c.cpu k) _) z) e)
            (quiet_is (c.lines.coming k) (three (may_send κ c k) (is_idle (c.lines.request k)) (is_quiet (c.lines.coming k)) u).2))
            (λ u. stay_here c m s μ g)
