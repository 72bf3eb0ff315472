-- A lent memory and the lines that it is read as agree; so do the machines and the cores that they are read as.
use Rattle.std.proofs.Common.{◌≡◌, ℕ, zero, suc, ◌*◌, ◌/◌, ◌%◌, ◌<◌, ◌≤◌, min, Bool, true, false, cond, List, [], ◌∷◌, ◌++◌, map, length, get_or, take, set, sym, refl, ap, ◌∙◌, arith, length-set}
use Rattle.std.proofs.lemmas.Bool.{cond-true, cond-false}
use Rattle.std.proofs.lemmas.List.{append-nil}
use Rattle.words.proofs.Lines.{line_word, line_set, line_count}
use Rattle.words.specs.Parts.{lines}
use Rattle.cores.specs.Machines.{word, with_word, Core, Manual, core, after, event, begins, fresh_cores, step, interrupt, pick}
use Rattle.cores.specs.Rv32.{rv32}
use Rattle.rv32.specs.Execute.{did, enters, one}
use Rattle.rv32.specs.declared.core_state.Effect.{Effect}
use Rattle.rv32.specs.declared.core_state.Effect.TheVariants.{Goes, Stores, Says, Stops}
use Rattle.reference.specs.Read.{OnAt, Performed, core_of, there, machine_after, manual_of, new_machine, outcome, outcome_of, spoken, words_after}
use Rattle.reference.specs.declared.machines.Outcome.{Outcome}
use Rattle.reference.specs.declared.machines.Outcome.TheVariants.{Done, Off, NotLet}
use Rattle.reference.specs.declared.machines.Machine.{Machine}
use Rattle.reference.specs.declared.machines.Machines.{Machines}
use Rattle.rv32.specs.Laws.{StoresWithin, Supplied, Within}
use Rattle.rv32.specs.declared.core_state.Need.{Need}
use Rattle.rv32.specs.declared.core_state.Need.TheVariants.{Nothing, Read, Write}

picked : {A : Type 0} (b : Bool) (x y : A) → b ≡ true → pick b x y ≡ x
picked b x y e = ap (λ c. pick c x y) e

unpicked : {A : Type 0} (b : Bool) (x y : A) → b ≡ false → pick b x y ≡ y
unpicked b x y e = ap (λ c. pick c x y) e

pub word_lines : (n a : ℕ) (w : List ℕ) → a < 8 * n → word (lines n w) a ≡ get_or w a 0
unfolding word
word_lines n a w h = line_word n (a / 8) (a % 8) w (omega arith) (omega arith) ∙ ap (λ i. get_or w i 0) (omega arith)

pub with_word_lines : (n a x : ℕ) (w : List ℕ) → a < 8 * n → with_word (lines n w) a x ≡ lines n (set w a x)
unfolding with_word
with_word_lines n a x w h = line_set n (a / 8) (a % 8) x w (omega arith) (omega arith) ∙ ap (λ i. lines n (set w i x)) (omega arith)

-- what is supplied from the words is supplied from the lines
pub supplied_lines : (n x : ℕ) (w : List ℕ) (need : Need) → Within n need → Supplied (λ a. get_or w a 0) x need → Supplied (word (lines n w)) x need
supplied_lines n x w Nothing h s = tt
supplied_lines n x w (Read a) h s = s ∙ sym (word_lines n a w h)
supplied_lines n x w (Write a) h s = s ∙ sym (word_lines n a w h)

-- the machines that are there, as cores
front_at : (n k : ℕ) (l : List Machine) (d : Core rv32) (m : Machine) → k < n → k < length l → get_or (map core_of (take n l)) k d ≡ core_of (get_or l k m)
front_at zero k l d m h g = absurd (omega arith)
front_at (suc n) k [] d m h g = absurd (omega arith)
front_at (suc n) zero (x ∷ l) d m h g = refl
front_at (suc n) (suc k) (x ∷ l) d m h g = front_at n k l d m (omega arith) (omega arith)

front_set : (n k : ℕ) (l : List Machine) (m : Machine) → k < n → set (map core_of (take n l)) k (core_of m) ≡ map core_of (take n (set l k m))
front_set zero k l m h = absurd (omega arith)
front_set (suc n) k [] m h = refl
front_set (suc n) zero (x ∷ l) m h = refl
front_set (suc n) (suc k) (x ∷ l) m h = ap (λ r. core_of x ∷ r) (front_set n k l m (omega arith))

front_past : (n k : ℕ) (l : List Machine) (d : Core rv32) → n ≤ k → get_or (map core_of (take n l)) k d ≡ d
front_past zero k l d h = refl
front_past (suc n) k [] d h = refl
front_past (suc n) zero (x ∷ l) d h = absurd (omega arith)
front_past (suc n) (suc k) (x ∷ l) d h = front_past n k l d (omega arith)

-- four new machines, of which the first n are there
fresh_front : (n : ℕ) → n ≤ 4 → map core_of (take n (new_machine 0 ∷ new_machine 1 ∷ new_machine 2 ∷ new_machine 3 ∷ [])) ≡ fresh_cores rv32 0 n
unfolding fresh_cores
fresh_front zero h = refl
fresh_front (suc zero) h = refl
fresh_front (suc (suc zero)) h = refl
fresh_front (suc (suc (suc zero))) h = refl
fresh_front (suc (suc (suc (suc zero)))) h = refl
fresh_front (suc (suc (suc (suc (suc n))))) h = absurd (omega arith)

pub begun : (a b c d : Machine) (n : ℕ) (words : List ℕ) → n ≤ 4 → a ≡ new_machine 0 → b ≡ new_machine 1 → c ≡ new_machine 2 → d ≡ new_machine 3 →
    manual_of (record { machines = a ∷ b ∷ c ∷ d ∷ []; count = n }) words [] ≡ begins rv32 n (lines (length words / 8) words)
unfolding manual_of begins
begun a b c d n words h p q r s =
    ap (λ (l : List Machine). record { cores = map core_of (take (min n 4) l); memory = lines (length words / 8) words; said = [] }) (λ i. p i ∷ q i ∷ r i ∷ s i ∷ [])
    ∙ ap (λ (l : List (Core rv32)). record { cores = l; memory = lines (length words / 8) words; said = [] })
    (ap (λ j. map core_of (take j (new_machine 0 ∷ new_machine 1 ∷ new_machine 2 ∷ new_machine 3 ∷ []))) (omega arith) ∙ fresh_front n h)

module _ (ms : Machines) (words : List ℕ) (k : ℕ) where
  abbrev μ : List (ℕ × ℕ) → Manual rv32
  μ said = manual_of ms words said

  pub here : (m : Machine) (said : List (ℕ × ℕ)) → k < there ms → k < length ms.machines → core rv32 (μ said) k ≡ core_of (get_or ms.machines k m)
  unfolding core manual_of
  here m said h g = front_at (there ms) k ms.machines _ m h g

  pub not_here : (said : List (ℕ × ℕ)) → there ms ≤ k → (core rv32 (μ said) k).on ≡ false
  unfolding core manual_of
  not_here said h = ap (λ (c : Core rv32). c.on) (front_past (there ms) k ms.machines _ h)

  -- an event of a core that is off does nothing
  pub off_step : (said : List (ℕ × ℕ)) → (core rv32 (μ said) k).on ≡ false → (Off ≡ outcome (μ said) (step k)) × (manual_of ms words (said ++ []) ≡ event rv32 (μ said) (step k))
  unfolding outcome event
  off_step said o = (sym (cond-false _ _ _ o), ap (manual_of ms words) (append-nil said) ∙ sym (unpicked _ _ _ o))

  pub off_interrupt : (said : List (ℕ × ℕ)) → (core rv32 (μ said) k).on ≡ false → (Off ≡ outcome (μ said) (interrupt k)) × (manual_of ms words (said ++ []) ≡ event rv32 (μ said) (interrupt k))
  unfolding outcome event
  off_interrupt said o = (sym (cond-false _ _ _ o), ap (manual_of ms words) (append-nil said) ∙ sym (unpicked _ _ _ o))

  -- the machines with another machine k, another memory, and more said
  abbrev with : Machine → List ℕ → List (ℕ × ℕ) → Manual rv32
  with m v said = manual_of (record { machines = set ms.machines k m; count = ms.count }) v said

  module _ (m : Machine) (here_on : OnAt ms k m) where
    core_is : (said : List (ℕ × ℕ)) → core rv32 (μ said) k ≡ core_of m
    core_is said = here m said here_on.present here_on.in_row ∙ ap core_of (sym here_on.is)

    goes_on : (said : List (ℕ × ℕ)) → (core rv32 (μ said) k).on ≡ true
    goes_on said = ap (λ (c : Core rv32). c.on) (core_is said) ∙ here_on.on

    -- the machines after an instruction
    settled : (e : Effect) (said : List (ℕ × ℕ)) → StoresWithin (length words / 8) e →
        with (machine_after m e) (words_after words e) (said ++ spoken (outcome_of k (did e))) ≡ after rv32 (μ said) k (did e)
    unfolding manual_of after
    settled (Goes c) said w = λ i. record {
      cores = sym (front_set (there ms) k ms.machines (record { core = c; on = true }) here_on.present) i;
      memory = lines (length words / 8) words;
      said = append-nil said i;
    }
    settled (Stores a x c) said w = λ i. record {
      cores = sym (front_set (there ms) k ms.machines (record { core = c; on = true }) here_on.present) i;
      memory = (ap (λ n. lines (n / 8) (set words a x)) (length-set words a x) ∙ sym (with_word_lines (length words / 8) a x words w)) i;
      said = append-nil said i;
    }
    settled (Says x c) said w = λ i. record {
      cores = sym (front_set (there ms) k ms.machines (record { core = c; on = true }) here_on.present) i;
      memory = lines (length words / 8) words;
      said = said ++ (k, x) ∷ [];
    }
    settled Stops said w = λ i. record {
      cores =
          (sym (front_set (there ms) k ms.machines (record { core = m.core; on = false }) here_on.present)
          ∙ ap (λ (c : Core rv32). set (map core_of (take (there ms) ms.machines)) k (record { cpu = c.cpu; on = false })) (sym (core_is said))) i;
      memory = lines (length words / 8) words;
      said = append-nil said i;
    }

    one_is : (said : List (ℕ × ℕ)) (e : Effect) → did e ≡ one (length words / 8) m.core (word (lines (length words / 8) words)) →
        one (length (μ said).memory) (core rv32 (μ said) k).cpu (word (μ said).memory) ≡ did e
    unfolding manual_of
    one_is said e d =
        ap (λ n. one n (core rv32 (μ said) k).cpu (word (lines (length words / 8) words))) (line_count (length words / 8) words)
        ∙ ap (λ (c : Core rv32). one (length words / 8) c.cpu (word (lines (length words / 8) words))) (core_is said)
        ∙ sym d

    pub performed_step : (e : Effect) → did e ≡ one (length words / 8) m.core (word (lines (length words / 8) words)) → StoresWithin (length words / 8) e →
        Performed (step k) ms words (record { machines = set ms.machines k (machine_after m e); count = ms.count }) (words_after words e) (outcome_of k (did e))
    unfolding outcome event
    performed_step e d w said = (
      sym (cond-true _ _ _ (goes_on said) ∙ ap (outcome_of k) (one_is said e d)),
      settled e said w ∙ sym (picked _ _ _ (goes_on said) ∙ ap (after rv32 (μ said) k) (one_is said e d)),
    )

    -- the machines after an interrupt
    pub performed_interrupt : (b : Bool) (o : Outcome) → b ≡ m.core.lets → o ≡ cond b Done NotLet → spoken o ≡ [] →
        Performed (interrupt k) ms words (record { machines = set ms.machines k (record { core = enters m.core; on = true }); count = ms.count }) words o
    unfolding outcome event manual_of
    performed_interrupt b o l e s said = (
      e ∙ ap (λ t. cond t Done NotLet) (l ∙ ap (λ (c : Core rv32). c.cpu.lets) (sym (core_is said))) ∙ sym (cond-true _ _ _ (goes_on said)),
      (λ i. record {
        cores =
            (sym (front_set (there ms) k ms.machines (record { core = enters m.core; on = true }) here_on.present)
            ∙ ap (λ (c : Core rv32). set (map core_of (take (there ms) ms.machines)) k (record { cpu = enters c.cpu; on = true })) (sym (core_is said))) i;
        memory = lines (length words / 8) words;
        said = (ap (λ r. said ++ r) s ∙ append-nil said) i;
      })
          ∙ sym (picked _ _ _ (goes_on said)),
    )
