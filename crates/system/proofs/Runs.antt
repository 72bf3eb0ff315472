-- A run by choices: what holds after some cycles, and one more.
use Rattle.std.proofs.Common.{◌≡◌, ℕ, ◌+◌, ◌*◌, ◌≤◌, Bool, List, [], ◌∷◌, ◌++◌, map, length, drop, sym, refl, ap, ◌∙◌, subst, append_assoc, length-append}
use Rattle.words.proofs.Lines.{line_count}
use Rattle.cores.specs.Machines.{Event}
use Rattle.cores.specs.Board.{Board, Choice, cycles, powered}
use Rattle.cores.specs.Kept.{AlwaysInside}
use Rattle.cores.specs.Lent.{Lent}
use Rattle.cores.specs.Ports.{event_of, said_of, somes}
use Rattle.cores.specs.Promise.{Memory}
use Rattle.cores.specs.declared.port.Out as port
use Rattle.cores.proofs.Basics.{append_nil}
use Rattle.cores.proofs.Runs.{powered_append}
use Rattle.image.specs.Choices.{Cycle, cycles_of, Read}
use Rattle.image.specs.declared.memory.Header.{Header}
use Rattle.board.specs.Layout.{board_of, memory_of}
use Rattle.system.specs.Cycle.{Fitting, Next, choice, next}
use Rattle.system.specs.Log.{Log, more}
use Rattle.system.specs.Run.{lines_up, choice_of, choices_in, PoweredOn, Ran}
use Rattle.system.proofs.Fits.{fitting}

-- more is heard of more
pub more_more : (start log then : Log) (said said-2 : List (ℕ × ℕ)) (did did-2 : List Event) → log ≡ more start said did → then ≡ more log said-2 did-2 → then ≡ more start (said ++ said-2) (did ++ did-2)
more_more start log then said said-2 did did-2 e f =
    f ∙ ap (λ (l : Log). more l said-2 did-2) e
    ∙ (λ i. record { said = append_assoc start.said said said-2 i; did = append_assoc start.did did did-2 i })

-- nothing is heard at first
pub more_nil : (start : Log) → start ≡ more start [] []
more_nil start = λ i. record { said = sym (append_nil start.said) i; did = sym (append_nil start.did) i }

module _ (L : Lent) (kept-inside : AlwaysInside L.chip) (n lines : ℕ) (m : List (List ℕ)) (start : Log) where
  -- after a run nothing is refused in the next cycle
  pub ran_fits : (cs : List Choice) (chips board : List ℕ) (log : Log) → Ran L n lines m cs chips board start log →
      1 ≤ n → n ≤ 4 → Memory m → 8 * lines + 1024 ≤ length board → (c : Choice) → Fitting L lines chips board c
  ran_fits cs chips board log r p q mm l c = fitting L kept-inside n lines m cs chips board (record { state = r.state; memory = r.memory; waiting = r.waiting }) p q mm l c

module _ (L : Lent) (n lines : ℕ) (m : List (List ℕ)) (start : Log) where
  abbrev Both : Type 0
  Both = L.chip.State × Board

  one_more : (cs : List Choice) (c : Choice) → powered L.chip n m (cs ++ c ∷ []) ≡ next L (powered L.chip n m cs).0 (powered L.chip n m cs).1 c
  unfolding cycles
  one_more cs c = powered_append L.chip n m cs (c ∷ [])

  -- one cycle more
  pub ran_next : (cs : List Choice) (c : Choice) (chips board chips_then board_then : List ℕ) (log log_then : Log) (o : port.Out) (words : List ℕ) →
      Ran L n lines m cs chips board start log → Next L lines chips board c o words chips_then board_then →
      log_then ≡ more log (said_of words) (somes event_of o.did) → Ran L n lines m (cs ++ c ∷ []) chips_then board_then start log_then
  ran_next cs c chips board chips_then board_then log log_then o words r nx e =
      let x = powered L.chip n m cs in
      let w : board_of lines board x.1.said x.1.did ≡ x.1 = λ i. record { memory = r.memory i; waiting = r.waiting i; said = x.1.said; did = x.1.did } in
      let y : next L (L.state_of chips) (board_of lines board x.1.said x.1.did) c ≡ next L x.0 x.1 c = λ i. next L (r.state i) (w i) c in
      let t : (L.state_of chips_then, board_of lines board_then (x.1.said ++ said_of words) (x.1.did ++ somes event_of o.did)) ≡ powered L.chip n m (cs ++ c ∷ []) =
      nx x.1.said x.1.did ∙ y ∙ sym (one_more cs c) in
      record {
        state = ap (λ (p : Both). p.0) t;
        memory = ap (λ (p : Both). p.1.memory) t;
        waiting = ap (λ (p : Both). p.1.waiting) t;
        heard = more_more start log log_then x.1.said (said_of words) x.1.did (somes event_of o.did) r.heard e ∙ ap (λ (p : Both). more start p.1.said p.1.did) t;
      }

-- at power-on
pub ran_start : (L : Lent) (h : Header) (chips board : List ℕ) (log : Log) → PoweredOn L h chips board → Ran L h.cores h.lines (memory_of h.lines board) [] chips board log log
unfolding powered cycles
ran_start L h chips board log p = record {
  state = p.state ∙ ap (L.chip.fresh h.cores) (sym (line_count h.lines board));
  memory = refl;
  waiting = p.nobody;
  heard = more_nil log;
}

-- so many cycles are done, up to a place of the bytes
pub record SoFar (L : Lent) (h : Header) (m : List (List ℕ)) (bytes : List ℕ) (at done : ℕ) (chips board : List ℕ) (start log : Log) : Type 0 where
  pub before : List Choice
  pub joined : before ++ choices_in (drop at bytes) ≡ choices_in bytes
  pub count : length before ≡ done
  pub ran : Ran L h.cores h.lines m before chips board start log

module _ (L : Lent) (h : Header) (m : List (List ℕ)) (bytes : List ℕ) (start : Log) where
  pub far_next : (at end done raised : ℕ) (ups : List Bool) (given chips board chips_then board_then : List ℕ) (log log_then : Log) (o : port.Out) (words : List ℕ) →
      SoFar L h m bytes at done chips board start log → Read bytes at raised given end →
      ups ≡ lines_up raised → Next L h.lines chips board (choice given ups) o words chips_then board_then →
      log_then ≡ more log (said_of words) (somes event_of o.did) → SoFar L h m bytes end (done + 1) chips_then board_then start log_then
  unfolding choices_in
  far_next at end done raised ups given chips board chips_then board_then log log_then o words s r u nx e =
      let c = choice_of (record { raised = raised; given = given }) in
      let z : Next L h.lines chips board c o words chips_then board_then = subst (λ (v : List Bool). Next L h.lines chips board (choice given v) o words chips_then board_then) u nx in
      record {
        before = s.before ++ c ∷ [];
        joined = append_assoc s.before (c ∷ []) (choices_in (drop end bytes)) ∙ ap (λ (l : List Cycle). s.before ++ map choice_of l) (sym r.cycles) ∙ s.joined;
        count = length-append s.before (c ∷ []) ∙ ap (λ k. k + 1) s.count;
        ran = ran_next L h.cores h.lines m start s.before c chips board chips_then board_then log log_then o words s.ran z e;
      }

  -- at the end of the bytes all is done
  pub far_all : (at done : ℕ) (chips board : List ℕ) (log : Log) → SoFar L h m bytes at done chips board start log → cycles_of (drop at bytes) ≡ [] →
      (done ≡ length (choices_in bytes)) × Ran L h.cores h.lines m (choices_in bytes) chips board start log
  unfolding choices_in
  far_all at done chips board log s e =
      let z : s.before ≡ choices_in bytes = sym (append_nil s.before) ∙ ap (λ (l : List Cycle). s.before ++ map choice_of l) (sym e) ∙ s.joined in
      (sym s.count ∙ ap length z, subst (λ (cs : List Choice). Ran L h.cores h.lines m cs chips board start log) z s.ran)

-- before the first cycle
pub far_start : (L : Lent) (h : Header) (bytes chips board : List ℕ) (log : Log) → PoweredOn L h chips board → SoFar L h (memory_of h.lines board) bytes 0 0 chips board log log
far_start L h bytes chips board log p = record { before = []; joined = refl; count = refl; ran = ran_start L h chips board log p }
