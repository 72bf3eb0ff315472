-- In every run the chip asks for and writes lines of memory only, and few lines wait; and once every core has stopped nothing more is said or done, and
-- the caches are written back in time.
use Rattle.std.proofs.Common.{◌≡◌, ℕ, ◌≤◌, Bool, true, List, [], ◌∷◌, ◌++◌, length, sym, ap, ◌∙◌, append_assoc, arith}
use Rattle.cores.specs.Machines.{Event}
use Rattle.cores.specs.Board.{Choice, powered}
use Rattle.cores.specs.Kept.{AlwaysInside, Drained}
use Rattle.cores.specs.Promise.{CleanAfter, Memory}
use Rattle.cores.proofs.Basics.{append_nil}
use Rattle.cached.specs.Rv.{rv}
use Rattle.cached.specs.Soc.{State, chip}
use Rattle.cached.specs.Stopped.{all_off}
use Rattle.cached.proofs.Always.{all_parts}
use Rattle.cached.proofs.Owed.{cached_promises}
use Rattle.cached.proofs.Quiet.{machines_off, stays_quiet}

pub always_inside : AlwaysInside (chip rv)
always_inside n m cs p q r =
    let w = all_parts.inside n m cs p q r in
    record { waiting = w.waiting; asks = λ c. w.asks c.given c.raised; writes = λ c. w.writes c.given c.raised; room = λ c. w.room c.given c.raised }

module _ (n : ℕ) (m : List (List ℕ)) (p : 1 ≤ n) (q : n ≤ 4) (r : Memory m) where
  -- what follows once every core has stopped
  record Still (cs ds : List Choice) : Type 0 where
    pub said : (powered (chip rv) n m (cs ++ ds)).1.said ≡ (powered (chip rv) n m cs).1.said
    pub did : (powered (chip rv) n m (cs ++ ds)).1.did ≡ (powered (chip rv) n m cs).1.did

  still : (cs ds : List Choice) → all_off (powered (chip rv) n m cs).0 ≡ true → Still cs ds
  still cs [] o = record {
    said = ap (λ (xs : List Choice). (powered (chip rv) n m xs).1.said) (append_nil cs);
    did = ap (λ (xs : List Choice). (powered (chip rv) n m xs).1.did) (append_nil cs);
  }
  still cs (d ∷ ds) o =
      let z = stays_quiet n m cs p q r o d in
      let y = still (cs ++ d ∷ []) ds z.off in
      let e = append_assoc cs (d ∷ []) ds in
      record {
        said = sym (ap (λ (xs : List Choice). (powered (chip rv) n m xs).1.said) e) ∙ y.said ∙ z.said;
        did = sym (ap (λ (xs : List Choice). (powered (chip rv) n m xs).1.did) e) ∙ y.did ∙ z.did;
      }

pub drained : Drained (chip rv) all_off 8192
unfolding CleanAfter
drained n m cs ds p q r o l =
    let s = still n m p q r cs ds o in
    record { said = s.said; did = s.did; memory = cached_promises.clean_after n m cs ds p q r (machines_off n m cs p q r o) (omega arith) }
