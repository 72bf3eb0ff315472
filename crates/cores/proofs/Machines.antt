-- The manual's machines: rows of events one after another; how many machines there are stays; one that is off stays off, and with all off nothing changes.
use Rattle.std.proofs.Common.{◌≡◌, ℕ, zero, suc, ◌+◌, ◌<◌, ◌≤◌, Bool, true, false, ltb, ◌≢◌, List, [], ◌∷◌, ◌++◌, length, get_or, set, sym, refl, ap, ◌∙◌, arith, length-set, get_or-set_other}
use mathlib.Core.Bool.{false≢true}
use lib.ListN.{get_or-eq_default}
use Rattle.rv32.specs.Did.{Did, goes, stores, says, stops, cpu_after, on_after}
use Rattle.cores.specs.Machines.{word, Event, step, interrupt, steps, interrupts, Isa, Core, Manual, core, after, event, events, fresh_cores, begins, manual_after}
use Rattle.cores.specs.Put.{put}
use Rattle.cores.specs.Owed.{Allowed}
use Rattle.cores.proofs.Basics.{by_test, choose, less, not_less, set_put}

pub interrupts_append : (k : ℕ) (xs ys : List Event) → interrupts k (xs ++ ys) ≡ interrupts k xs + interrupts k ys
unfolding interrupts
interrupts_append k [] ys = omega arith
interrupts_append k (step j ∷ xs) ys = interrupts_append k xs ys
interrupts_append k (interrupt j ∷ xs) ys = let ih = interrupts_append k xs ys in grind arith

pub steps_append : (k : ℕ) (xs ys : List Event) → steps k (xs ++ ys) ≡ steps k xs + steps k ys
unfolding steps
steps_append k [] ys = omega arith
steps_append k (step j ∷ xs) ys = let ih = steps_append k xs ys in grind arith
steps_append k (interrupt j ∷ xs) ys = steps_append k xs ys

module _ (I : Isa) where
  abbrev on : Manual I → ℕ → Bool
  on μ k = (core I μ k).on

  pub events_append : (μ : Manual I) (xs ys : List Event) → events I μ (xs ++ ys) ≡ events I (events I μ xs) ys
  unfolding events
  events_append μ [] ys = refl
  events_append μ (x ∷ xs) ys = events_append (event I μ x) xs ys

  pub allowed_append : (μ : Manual I) (xs ys : List Event) → Allowed I μ xs → Allowed I (events I μ xs) ys → Allowed I μ (xs ++ ys)
  unfolding events
  allowed_append μ [] ys a b = b
  allowed_append μ (step k ∷ xs) ys a b = allowed_append (event I μ (step k)) xs ys a b
  allowed_append μ (interrupt k ∷ xs) ys a b = (a.0, allowed_append (event I μ (interrupt k)) xs ys a.1 b)

  -- what is allowed holds at each interrupt of the row
  pub allowed_at : (μ : Manual I) (xs ys : List Event) (k : ℕ) → Allowed I μ (xs ++ interrupt k ∷ ys) →
      (I.lets (core I (events I μ xs) k).cpu ≡ true) × (on (events I μ xs) k ≡ true)
  unfolding events
  allowed_at μ [] ys k a = a.0
  allowed_at μ (step j ∷ xs) ys k a = allowed_at (event I μ (step j)) xs ys k a
  allowed_at μ (interrupt j ∷ xs) ys k a = allowed_at (event I μ (interrupt j)) xs ys k a.1

  -- an instruction of a core that goes
  pub did_step : (μ : Manual I) (k : ℕ) (d : Did I.Cpu) → on μ k ≡ true → I.one (length μ.memory) (core I μ k).cpu (word μ.memory) ≡ d →
      events I μ (step k ∷ []) ≡ after I μ k d
  unfolding events event
  did_step μ k d o e = rw (o, e)

  -- an interrupt of a core that goes
  pub did_interrupt : (μ : Manual I) (k : ℕ) → on μ k ≡ true →
      events I μ (interrupt k ∷ []) ≡ record { cores = set μ.cores k (record { cpu = I.enters (core I μ k).cpu; on = true }); memory = μ.memory; said = μ.said }
  unfolding events event
  did_interrupt μ k o = rw o

  -- core j after an instruction of core k
  pub after_core : (μ : Manual I) (k : ℕ) (d : Did I.Cpu) (j : ℕ) → k < length μ.cores →
      core I (after I μ k d) j ≡ put (core I μ) k (record { cpu = cpu_after (core I μ k).cpu d; on = on_after d }) j
  unfolding core after
  after_core μ k (goes c) j l = set_put μ.cores k (record { cpu = c; on = true }) (record { cpu = I.start 0; on = false }) j l
  after_core μ k (stores a x c) j l = set_put μ.cores k (record { cpu = c; on = true }) (record { cpu = I.start 0; on = false }) j l
  after_core μ k (says x c) j l = set_put μ.cores k (record { cpu = c; on = true }) (record { cpu = I.start 0; on = false }) j l
  after_core μ k stops j l = set_put μ.cores k (record { cpu = (core I μ k).cpu; on = false }) (record { cpu = I.start 0; on = false }) j l

  -- how many machines there are stays
  pub after_many : (μ : Manual I) (k : ℕ) (d : Did I.Cpu) → length (after I μ k d).cores ≡ length μ.cores
  unfolding after
  after_many μ k (goes c) = length-set μ.cores k _
  after_many μ k (stores a x c) = length-set μ.cores k _
  after_many μ k (says x c) = length-set μ.cores k _
  after_many μ k stops = length-set μ.cores k _

  event_many : (μ : Manual I) (e : Event) → length (event I μ e).cores ≡ length μ.cores
  unfolding event
  event_many μ (step k) = choose (λ r. length r.cores ≡ length μ.cores) (on μ k) _ μ (λ _. after_many μ k _) (λ _. refl)
  event_many μ (interrupt k) = choose (λ r. length r.cores ≡ length μ.cores) (on μ k) _ μ (λ _. length-set μ.cores k _) (λ _. refl)

  pub events_many : (μ : Manual I) (es : List Event) → length (events I μ es).cores ≡ length μ.cores
  unfolding events
  events_many μ [] = refl
  events_many μ (e ∷ es) = events_many (event I μ e) es ∙ event_many μ e

  pub fresh_many : (j n : ℕ) → length (fresh_cores I j n) ≡ n
  unfolding fresh_cores
  fresh_many j zero = refl
  fresh_many j (suc n) = ap suc (fresh_many (suc j) n)

  pub manual_many : (n : ℕ) (m : List (List ℕ)) (es : List Event) → length (manual_after I n m es).cores ≡ n
  unfolding begins manual_after
  manual_many n m es = events_many _ es ∙ fresh_many 0 n

  -- core k when new
  pub fresh_core : (j n k : ℕ) (d : Core I) → k < n → get_or (fresh_cores I j n) k d ≡ record { cpu = I.start (j + k); on = true }
  unfolding fresh_cores
  fresh_core j zero k d l = absurd (omega arith)
  fresh_core j (suc n) zero d l = ap (λ (i : ℕ). record { cpu = I.start i; on = true }) (omega arith)
  fresh_core j (suc n) (suc k) d l = fresh_core (suc j) n k d (omega arith) ∙ ap (λ (i : ℕ). record { cpu = I.start i; on = true }) (omega arith)

  -- another core is not touched
  other : (μ : Manual I) (j k : ℕ) (x : Core I) → j ≢ k → (get_or (set μ.cores j x) k (record { cpu = I.start 0; on = false })).on ≡ on μ k
  unfolding core
  other μ j k x n = ap (λ (c : Core I). c.on) (get_or-set_other μ.cores j k x (record { cpu = I.start 0; on = false }) (λ e. n (sym e)))

  after_other : (μ : Manual I) (j k : ℕ) (d : Did I.Cpu) → j ≢ k → on (after I μ j d) k ≡ on μ k
  unfolding after core
  after_other μ j k (goes c) n = other μ j k _ n
  after_other μ j k (stores a x c) n = other μ j k _ n
  after_other μ j k (says x c) n = other μ j k _ n
  after_other μ j k stops n = other μ j k _ n

  apart : (μ : Manual I) (j k : ℕ) → on μ j ≡ true → on μ k ≡ false → j ≢ k
  apart μ j k t f e = false≢true (sym f ∙ ap (on μ) (sym e) ∙ t)

  event_off : (μ : Manual I) (k : ℕ) (e : Event) → on μ k ≡ false → on (event I μ e) k ≡ false
  unfolding event core
  event_off μ k (step j) o = choose (λ r. on r k ≡ false) (on μ j) _ μ (λ t. after_other μ j k _ (apart μ j k t o) ∙ o) (λ _. o)
  event_off μ k (interrupt j) o = choose (λ r. on r k ≡ false) (on μ j) _ μ (λ t. other μ j k _ (apart μ j k t o) ∙ o) (λ _. o)

  -- a core that is off stays off
  pub events_off : (μ : Manual I) (k : ℕ) (es : List Event) → on μ k ≡ false → on (events I μ es) k ≡ false
  unfolding events
  events_off μ k [] o = o
  events_off μ k (e ∷ es) o = events_off (event I μ e) k es (event_off μ k e o)

  event_still : (μ : Manual I) (e : Event) → ((k : ℕ) → on μ k ≡ false) → event I μ e ≡ μ
  unfolding event
  event_still μ (step k) o = rw (o k)
  event_still μ (interrupt k) o = rw (o k)

  -- with all off nothing changes
  pub events_still : (μ : Manual I) (es : List Event) → ((k : ℕ) → on μ k ≡ false) → events I μ es ≡ μ
  unfolding events
  events_still μ [] o = refl
  events_still μ (e ∷ es) o = rw (event_still μ e o) (events_still μ es o)

  -- a core that is not there is off
  pub past_off : (μ : Manual I) (k : ℕ) → length μ.cores ≤ k → on μ k ≡ false
  unfolding core
  past_off μ k l = ap (λ (c : Core I). c.on) (get_or-eq_default μ.cores (record { cpu = I.start 0; on = false }) l)

  -- so all are off where the first n are
  pub all_off : (μ : Manual I) (n : ℕ) → length μ.cores ≡ n → ((k : ℕ) → k < n → on μ k ≡ false) → (k : ℕ) → on μ k ≡ false
  all_off μ n e o k = by_test (ltb k n) (λ t. o k (less k n t)) (λ t. past_off μ k (rw e (not_less k n t)))
