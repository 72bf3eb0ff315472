-- A run on the steady board: what holds after some cycles, and one more; and where every core has stopped.
use Rattle.std.proofs.Common.{◌≡◌, ℕ, zero, suc, ◌+◌, ◌*◌, ◌≤◌, Bool, true, false, List, [], ◌∷◌, ◌++◌, map, length, get_or, None, sym, refl, ap, ◌∙◌, subst, add-one, arith}
use mathlib.Core.Bool.{false≢true}
use Rattle.words.proofs.Lines.{line_count}
use Rattle.cores.specs.Machines.{manual_after, said_by}
use Rattle.cores.specs.Board.{Board, Choice, Out, Steady, asked, due, handed, kept, later, powered, steady, steady_cycle, steady_start, with_lines}
use Rattle.cores.specs.Kept.{AlwaysInside, Drained}
use Rattle.cores.specs.Lent.{Lent}
use Rattle.cores.specs.Owed.{board_of, lines as numbers}
use Rattle.cores.specs.Ports.{event_of, out_of, said_of, somes}
use Rattle.cores.specs.Promise.{Memory, Promises}
use Rattle.cores.specs.declared.port.Out as port
use Rattle.cores.specs.Rv32.{rv32}
use Rattle.cores.proofs.Steady.{due_handed, later_kept, zeros}
use Rattle.image.specs.declared.memory.Header.{Header}
use Rattle.board.specs.Faults.{unfit}
use Rattle.board.specs.Layout.{memory_of, row_of, timed_of, waiting_of}
use Rattle.board.specs.Rows.{line_in, pair_in}
use Rattle.system.specs.Log.{Log, more}
use Rattle.system.specs.Run.{PoweredOn}
use Rattle.system.specs.Steady.{after_steady, none_up, Clean, DoneSteady, FinishedSteady, FittingSteady, NextSteady, RanSteady, SameSteady}
use Rattle.system.proofs.ByChoices.{by_choices, chosen, chosen_more}
use Rattle.system.proofs.Fits.{Stands, fitting}
use Rattle.system.proofs.Power.{same_here}
use Rattle.system.proofs.Runs.{more_more, more_nil}

none_raised : ◌≡◌ {A = ℕ → Bool} (λ k. get_or (false ∷ false ∷ false ∷ false ∷ []) k false) none_up
none_raised = λ i k. go k i
  where
    go : (k : ℕ) → get_or (false ∷ false ∷ false ∷ false ∷ []) k false ≡ false
    go zero = refl
    go (suc zero) = refl
    go (suc (suc zero)) = refl
    go (suc (suc (suc zero))) = refl
    go (suc (suc (suc (suc k)))) = refl

-- the chip's cycle with the lines that are due
pub chip_steady : (L : Lent) (n : ℕ) (chips board chips_then words : List ℕ) (o : port.Out) (ls : List (ℕ × List ℕ)) →
    (L.state_of chips_then, out_of o words) ≡ L.chip.cycle (L.state_of chips) ls (λ k. get_or (false ∷ false ∷ false ∷ false ∷ []) k false) → ls ≡ due (memory_of n board) (timed_of n board) →
    (L.state_of chips_then, out_of o words) ≡ L.chip.cycle (L.state_of chips) (due (memory_of n board) (timed_of n board)) none_up
chip_steady L n chips board chips_then words o ls e f =
    e ∙ ap (λ (x : List (ℕ × List ℕ)). L.chip.cycle (L.state_of chips) x (λ k. get_or (false ∷ false ∷ false ∷ false ∷ []) k false)) f
    ∙ ap (λ (u : ℕ → Bool). L.chip.cycle (L.state_of chips) (due (memory_of n board) (timed_of n board)) u) none_raised

pub puts_steady : (L : Lent) (chips chips_then words : List ℕ) (o : port.Out) (ls : List (ℕ × List ℕ)) →
    (L.state_of chips_then, out_of o words) ≡ L.chip.cycle (L.state_of chips) ls none_up → out_of o words ≡ (L.chip.cycle (L.state_of chips) ls none_up).1
puts_steady L chips chips_then words o ls e = ap (λ (r : L.chip.State × Out). r.1) e

-- the lines that wait, without their time
map_numbers : {A : Type 0} (f : A → ℕ) (g : A → ℕ × ℕ) → ((x : A) → f x ≡ (g x).0) → (rs : List A) → map f rs ≡ numbers (map g rs)
unfolding numbers
map_numbers f g e [] = refl
map_numbers f g e (r ∷ rs) = let ih = map_numbers f g e rs in λ i. e r i ∷ ih i

waiting_numbers : (n : ℕ) (board : List ℕ) → waiting_of n board ≡ numbers (timed_of n board)
waiting_numbers n board = map_numbers line_in pair_in (λ _. refl) (row_of n board)

numbers_length : (ws : List (ℕ × ℕ)) → length (numbers ws) ≡ length ws
unfolding numbers
numbers_length [] = refl
numbers_length (w ∷ ws) = ap suc (numbers_length ws)

module _ (L : Lent) (n late : ℕ) (m : List (List ℕ)) where
  abbrev at : ℕ → Steady L.chip
  at k = after_steady L n m late k

  abbrev Both : Type 0
  Both = L.chip.State × Board

  -- the choices of the first k cycles
  abbrev choices : ℕ → List Choice
  choices k = chosen L.chip n m (λ _ _. false) (λ _ _. late) k

  same_run : (k : ℕ) → powered L.chip n m (choices k) ≡ ((at k).chip, board_of L.chip (at k))
  same_run k = by_choices L.chip n m (λ _ _. false) (λ _ _. late) k

  -- after a run nothing is refused in the next cycle
  module _ (kept-inside : AlwaysInside L.chip) (lines : ℕ) where
    fits_steady : (k : ℕ) (chips board : List ℕ) → L.state_of chips ≡ (at k).chip → memory_of lines board ≡ (at k).memory → timed_of lines board ≡ (at k).waiting →
        1 ≤ n → n ≤ 4 → Memory m → 8 * lines + 1024 ≤ length board → FittingSteady L lines chips board
    fits_steady k chips board s e w p q r l =
        let ws = timed_of lines board in
        let here : Choice = record { given = zeros 0 ws; raised = none_up } in
        let b = waiting_numbers lines board in
        let stands : Stands L n lines m (choices k) chips board = record {
          state = s ∙ sym (ap (λ (x : Both). x.0) (same_run k));
          memory = e ∙ sym (ap (λ (x : Both). x.1.memory) (same_run k));
          waiting = b ∙ ap numbers w ∙ sym (ap (λ (x : Both). x.1.waiting) (same_run k));
        } in
        let f = fitting L kept-inside n lines m (choices k) chips board stands p q r l here in
        let given : handed (memory_of lines board) (zeros 0 ws) 0 (waiting_of lines board) ≡ due (memory_of lines board) ws =
        ap (λ (x : List ℕ). handed (memory_of lines board) (zeros 0 ws) 0 x) b ∙ due_handed (memory_of lines board) 0 ws in
        let left : length (kept (zeros 0 ws) 0 (waiting_of lines board)) ≡ length (later ws) =
        ap (λ (x : List ℕ). length (kept (zeros 0 ws) 0 x)) b ∙ ap length (later_kept 0 ws) ∙ numbers_length (later ws) in
        record {
          sound = f.sound;
          fits = λ o words z. subst (λ j. unfit lines board o j ≡ None) left (f.fits o words (z ∙ sym (ap (λ (x : List (ℕ × List ℕ)). (L.chip.cycle (L.state_of chips) x none_up).1) given)));
        }

    pub ran_fits_steady : (k : ℕ) (chips board : List ℕ) (start log : Log) → RanSteady L n lines m late k chips board start log →
        1 ≤ n → n ≤ 4 → Memory m → 8 * lines + 1024 ≤ length board → FittingSteady L lines chips board
    ran_fits_steady k chips board start log r = fits_steady k chips board r.state r.memory r.waiting

  module _ (lines k : ℕ) (chips board chips_then board_then : List ℕ) (start log log_then : Log) (o : port.Out) (words : List ℕ)
      (r : RanSteady L n lines m late k chips board start log)
      (nx : NextSteady L lines late chips board o words chips_then board_then) (e : log_then ≡ more log (said_of words) (somes event_of o.did)) where
    abbrev decoded : Steady L.chip
    decoded = record { chip = L.state_of chips; memory = memory_of lines board; waiting = timed_of lines board; said = (at k).said; did = (at k).did }

    decoded_same : decoded ≡ at k
    decoded_same = λ i. record { chip = r.state i; memory = r.memory i; waiting = r.waiting i; said = (at k).said; did = (at k).did }

    cycled_same : steady_cycle L.chip none_up (λ _. late) decoded ≡ at (suc k)
    unfolding steady
    cycled_same = ap (steady_cycle L.chip none_up (λ _. late)) decoded_same

    ran_suc : RanSteady L n lines m late (suc k) chips_then board_then start log_then
    unfolding steady_cycle
    ran_suc = record {
      state = ap (λ (r : L.chip.State × Out). r.0) nx.chip_next ∙ ap (λ (s : Steady L.chip). s.chip) cycled_same;
      memory = nx.board_next.0 ∙ ap (λ (r : L.chip.State × Out). with_lines (memory_of lines board) r.1.writes) nx.chip_next ∙ ap (λ (s : Steady L.chip). s.memory) cycled_same;
      waiting = nx.board_next.1 ∙ ap (λ (r : L.chip.State × Out). later (timed_of lines board) ++ asked (λ _. late) r.1.asks) nx.chip_next ∙ ap (λ (s : Steady L.chip). s.waiting) cycled_same;
      heard = more_more start log log_then (at k).said (said_of words) (at k).did (somes event_of o.did) r.heard e
          ∙ ap (λ (r : L.chip.State × Out). more start ((at k).said ++ r.1.says) ((at k).did ++ r.1.did)) nx.chip_next ∙ ap (λ (s : Steady L.chip). more start s.said s.did) cycled_same;
    }

    -- one cycle more
    pub ran_more : RanSteady L n lines m late (k + 1) chips_then board_then start log_then
    ran_more = subst (λ j. RanSteady L n lines m late j chips_then board_then start log_then) (sym (add-one k)) ran_suc

  -- the main promise
  pub same_steady : Promises rv32 L.chip → (k : ℕ) → 1 ≤ n → n ≤ 4 → Memory m → SameSteady L n m late k
  same_steady promised k p q r j =
      subst (λ (x : Both). said_by j x.1.said ≡ said_by j (manual_after rv32 n m x.1.did).said) (same_run k) (same_here L promised n m (choices k) p q r j)

  -- where every core has stopped after k cycles memory is settled in time
  pub clean : (drain lines k : ℕ) (board : List ℕ) → Drained L.chip L.off drain → 1 ≤ n → n ≤ 4 → Memory m → L.off (at k).chip ≡ true → memory_of lines board ≡ (at (k + drain)).memory → Clean L drain n lines m late k board
  clean drain lines k board drained p q r o e =
      let z = chosen_more L.chip n m (λ _ _. false) (λ _ _. late) k drain in
      let settled = drained n m (choices k) z.0 p q r (ap (λ (x : Both). L.off x.0) (same_run k) ∙ o) z.1 in
      let there : powered L.chip n m (choices k ++ z.0) ≡ ((at (k + drain)).chip, board_of L.chip (at (k + drain))) = sym (ap (λ (cs : List Choice). powered L.chip n m cs) z.2) ∙ same_run (k + drain) in
      record {
        said = sym (ap (λ (x : Both). x.1.said) there) ∙ settled.said ∙ ap (λ (x : Both). x.1.said) (same_run k);
        did = sym (ap (λ (x : Both). x.1.did) there) ∙ settled.did ∙ ap (λ (x : Both). x.1.did) (same_run k);
        memory = e ∙ sym (ap (λ (x : Both). x.1.memory) there) ∙ settled.memory ∙ ap (λ (x : Both). (manual_after rv32 n m x.1.did).memory) (same_run k);
      }

-- how a run ends
module _ (L : Lent) (promised : Promises rv32 L.chip) (drain n lines late cycles k : ℕ) (m : List (List ℕ)) (chips board : List ℕ) (start log : Log) (p : 1 ≤ n) (q : n ≤ 4) (r : Memory m)
    (d : DoneSteady L n lines m late cycles k chips board start log) where
  -- so many cycles were asked for, and some core still goes
  pub still_goes : L.off (L.state_of chips) ≡ false → FinishedSteady L drain n lines m late cycles (record { cycles = k; stopped = false }) chips board start log
  still_goes e = record {
    enough = d.enough;
    stopped = sym e ∙ ap (λ (h : L.chip.State). L.off h) d.ran.state;
    ran = d.ran;
    same = same_steady L n late m promised k p q r;
    clean = λ z. absurd (false≢true z);
  }

  -- or every core has stopped, and memory is settled
  pub all_stopped : Drained L.chip L.off drain → (chips_then board_then : List ℕ) (log_then : Log) → L.off (L.state_of chips) ≡ true →
      RanSteady L n lines m late (k + drain) chips_then board_then start log_then →
      FinishedSteady L drain n lines m late cycles (record { cycles = k; stopped = true }) chips_then board_then start log_then
  all_stopped drained chips_then board_then log_then e z =
      let o : L.off (after_steady L n m late k).chip ≡ true = sym (ap (λ (h : L.chip.State). L.off h) d.ran.state) ∙ e in
      record { enough = d.enough; stopped = sym o; ran = z; same = same_steady L n late m promised (k + drain) p q r; clean = λ _. clean L n late m drain lines k board_then drained p q r o z.memory }

none_timed : {A : Type 0} (f : A → ℕ) (g : A → ℕ × ℕ) (rs : List A) → map f rs ≡ [] → map g rs ≡ []
none_timed f g [] e = refl
none_timed f g (r ∷ rs) e = absurd (let z : length (map f (r ∷ rs)) ≡ 0 = ap length e in omega arith)

-- at power-on
pub steady_begin : (L : Lent) (h : Header) (late : ℕ) (chips board : List ℕ) (log : Log) → PoweredOn L h chips board →
    RanSteady L h.cores h.lines (memory_of h.lines board) late 0 chips board log log
unfolding steady steady_start
steady_begin L h late chips board log p = record {
  state = p.state ∙ ap (L.chip.fresh h.cores) (sym (line_count h.lines board));
  memory = refl;
  waiting = none_timed line_in pair_in (row_of h.lines board) p.nobody;
  heard = more_nil log;
}
