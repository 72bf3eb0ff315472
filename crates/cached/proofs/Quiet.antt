-- Once every core has stopped, nothing is said or done any more.
use Rattle.std.proofs.Common.{◌≡◌, ℕ, zero, suc, ◌<◌, ◌≤◌, Bool, true, false, not, ◌||◌, ltb, List, [], ◌∷◌, ◌++◌, sym, refl, ap, ◌∙◌, subst, arith}
use Rattle.cores.specs.Board.{Board, Choice, Out, board_after, cycles, handed, powered}
use Rattle.cores.specs.Loop.{each}
use Rattle.cores.specs.Machines.{Event, Core, Manual, manual_after}
use Rattle.cores.specs.Owed.{cycled, next_board}
use Rattle.cores.specs.Promise.{Memory, machine}
use Rattle.cores.specs.Rv32.{rv32}
use Rattle.cores.proofs.Basics.{append_nil, by_test, choose, less, not_less}
use Rattle.cores.proofs.Machines.{manual_many}
use Rattle.cores.proofs.Runs.{powered_append, powered_inv}
use Rattle.directory.specs.Directory.{Request, idle, wants, queued, probing, fetching, free}
use Rattle.cached.specs.Kind.{Kind}
use Rattle.cached.specs.Rv.{rv}
use Rattle.cached.specs.Soc.{State, act, act_all, body, can_start, chip, cycle, deliver, next_start, start_next, start_request, take_all}
use Rattle.cached.specs.Stopped.{all_off}
use Rattle.cached.proofs.Base.{clash}
use Rattle.cached.proofs.Cases.{act_cases}
use Rattle.cached.proofs.Events.{handed_true}
use Rattle.cached.proofs.Kept.{Inv, inv_kept, off_stays, on_before}
use Rattle.cached.proofs.Outs.{acts_off, answerings_mute, before_acts, body_did, takings_mute}
use Rattle.cached.proofs.Rv.{rv_laws}

module _ (κ : Kind) where
  -- nothing is said or done
  abbrev pub Quiet : State κ × Out → Type 0
  Quiet r = (r.1.says ≡ []) × (r.1.did ≡ [])

  act_quiet : (up : ℕ → Bool) (k : ℕ) (c : State κ) → c.on k ≡ false → Quiet (act κ up k c)
  act_quiet up k c n = act_cases κ up k c Quiet (record {
    none = λ h. (refl, refl);
    interrupts = λ l o w h. clash o n;
    does = λ o h. clash o n;
    sends = λ a o h m s i q. (refl, refl);
    sweeping = λ q x o h e. (refl, refl);
    swept = λ x o h. (refl, refl);
  })

  acts_quiet : (up : ℕ → Bool) (j : ℕ) (c : State κ) → ((k : ℕ) → c.on k ≡ false) → Quiet (each (act κ up) j c)
  unfolding each
  acts_quiet up zero c n = (refl, refl)
  acts_quiet up (suc j) c n =
      let a = acts_quiet up j c n in
      let b = act_quiet up j (each (act κ up) j c).0 (acts_off κ up j j c (n j)) in
      (rw (a.0, b.0), rw (a.1, b.1))

  abbrev Silent : State κ × Out → Type 0
  Silent r = r.1.says ≡ []

  started_silent : (k : ℕ) (r : Request) (c : State κ) → Silent (start_request κ k r c)
  started_silent k idle c = refl
  started_silent k (wants a o p probing) c = refl
  started_silent k (wants a o p fetching) c = refl
  started_silent k (wants a o p queued) c = choose Silent (free c.lines.entry a 4) _ _ (λ u. refl) (λ u. refl)

  start_silent : (c : State κ) → Silent (start_next κ c)
  start_silent c = choose Silent (can_start κ c (next_start κ c)) _ _ (λ u. started_silent (next_start κ c) (c.lines.request (next_start κ c)) c) (λ u. refl)

  -- what a cycle said is what its cores said
  body_says : (xs : List (ℕ × List ℕ)) (up : ℕ → Bool) (c : State κ) → (body κ xs up c).1.says ≡ (act_all κ up (before_acts κ xs c)).1.says
  body_says xs up c =
      let d = before_acts κ xs c in
      rw ((takings_mute κ (deliver κ xs c).0).says, (answerings_mute κ (take_all κ (deliver κ xs c).0).0).says, start_silent (act_all κ up d).0) (append_nil (act_all κ up d).1.says)

  cycle_quiet : (c : State κ) (xs : List (ℕ × List ℕ)) (up : ℕ → Bool) → ((k : ℕ) → (before_acts κ xs c).on k ≡ false) → Quiet (cycle κ c xs up)
  unfolding cycle
  cycle_quiet c xs up n = let q = acts_quiet up 4 (before_acts κ xs c) n in (body_says xs up c ∙ q.0, body_did κ xs up c ∙ q.1)

abbrev Holds : State rv → Board → Manual rv32 → Type 0
Holds = Inv rv rv_laws

four_off : (f : ℕ → Bool) → not (f 0 || (f 1 || (f 2 || f 3))) ≡ true → (k : ℕ) → k < 4 → f k ≡ false
four_off f e zero l = grind arith
four_off f e (suc zero) l = grind arith
four_off f e (suc (suc zero)) l = grind arith
four_off f e (suc (suc (suc zero))) l = grind arith
four_off f e (suc (suc (suc (suc k)))) l = absurd (omega arith)

-- every core is off, also those that are not there
each_off : (c : State rv) (b : Board) (μ : Manual rv32) → Holds c b μ → all_off c ≡ true → (k : ℕ) → c.on k ≡ false
each_off c b μ h e k = by_test (ltb k 4) (λ u. four_off c.on e k (less k 4 u)) (λ u. h.beyond k (let z = not_less k 4 u in let y = h.agrees.small in omega arith))

module _ (c : State rv) (b : Board) (μ : Manual rv32) (h : Holds c b μ) (e : all_off c ≡ true) (x : Choice) where
  abbrev xs : List (ℕ × List ℕ)
  xs = handed b.memory x.given 0 b.waiting

  off_quiet : Quiet rv (cycle rv c xs x.raised)
  off_quiet = cycle_quiet rv c xs x.raised
      (λ k. ap (λ (f : ℕ → Bool). f k) (on_before rv rv_laws c b.memory b.said μ h.agrees h.live xs (handed_true b.memory x.given 0 b.waiting) x.raised) ∙ each_off c b μ h e k)

  off_stays_off : all_off (cycle rv c xs x.raised).0 ≡ true
  unfolding cycle
  off_stays_off =
      let o : (k : ℕ) → (body rv xs x.raised c).0.on k ≡ false =
      λ k. off_stays rv rv_laws c b.memory b.said μ h.agrees h.live xs (handed_true b.memory x.given 0 b.waiting) x.raised k (each_off c b μ h e k) in
      rw (o 0, o 1, o 2, o 3)

module _ (n : ℕ) (m : List (List ℕ)) (cs : List Choice) (p : 1 ≤ n) (q : n ≤ 4) (r : Memory m) (e : all_off (powered (chip rv) n m cs).0 ≡ true) where
  holds : Holds (powered (chip rv) n m cs).0 (powered (chip rv) n m cs).1 (manual_after rv32 n m (powered (chip rv) n m cs).1.did)
  holds = powered_inv rv32 (chip rv) Holds (inv_kept rv rv_laws) n m cs p q r

  -- the machines have stopped too
  pub machines_off : (k : ℕ) → k < n → (machine rv32 n m (powered (chip rv) n m cs).1.did k).on ≡ false
  machines_off k l =
      let c : State rv = (powered (chip rv) n m cs).0 in
      let z : k < c.count = subst (λ i. k < i) (sym (manual_many rv32 n m (powered (chip rv) n m cs).1.did) ∙ holds.agrees.many) l in
      ap (λ (y : Core rv32). y.on) (holds.agrees.cores k z) ∙ each_off c (powered (chip rv) n m cs).1 _ holds e k

  -- one cycle more says nothing, does nothing, and starts no core
  pub record Stays (c : Choice) : Type 0 where
    pub said : (powered (chip rv) n m (cs ++ c ∷ [])).1.said ≡ (powered (chip rv) n m cs).1.said
    pub did : (powered (chip rv) n m (cs ++ c ∷ [])).1.did ≡ (powered (chip rv) n m cs).1.did
    pub off : all_off (powered (chip rv) n m (cs ++ c ∷ [])).0 ≡ true

  one_more : (c : Choice) → powered (chip rv) n m (cs ++ c ∷ []) ≡ ((cycled (chip rv) (powered (chip rv) n m cs).0 (powered (chip rv) n m cs).1 c).0, next_board (chip rv) (powered (chip rv) n m cs).0 (powered (chip rv) n m cs).1 c)
  unfolding cycles
  one_more c = powered_append (chip rv) n m cs (c ∷ [])

  pub stays_quiet : (c : Choice) → Stays c
  unfolding board_after
  stays_quiet c =
      let h : State rv = (powered (chip rv) n m cs).0 in
      let b : Board = (powered (chip rv) n m cs).1 in
      let z = off_quiet h b _ holds e c in
      record {
        said = ap (λ (y : State rv × Board). y.1.said) (one_more c) ∙ ap (λ (l : List (ℕ × ℕ)). b.said ++ l) z.0 ∙ append_nil b.said;
        did = ap (λ (y : State rv × Board). y.1.did) (one_more c) ∙ ap (λ (l : List Event). b.did ++ l) z.1 ∙ append_nil b.did;
        off = ap (λ (y : State rv × Board). all_off y.0) (one_more c) ∙ off_stays_off h b _ holds e c;
      }
