-- The chip pays what a chip owes, for every kind of core that keeps the laws; and so it keeps all eight promises.
use Rattle.std.proofs.Common.{◌≡◌, ℕ, ◌<◌, ◌≤◌, Bool, true, false, List, sym, refl, ap, ◌∙◌, subst, arith}
use Rattle.cores.specs.Board.{Board, handed}
use Rattle.cores.specs.Machines.{interrupts, said_by, Core, Manual}
use Rattle.cores.specs.Owed.{Faithful, Bounded, Owed}
use Rattle.cores.specs.Promise.{Promises}
use Rattle.cores.specs.Rv32.{rv32}
use Rattle.cores.proofs.Promises.{promises}
use Rattle.cached.specs.Soc.{State, cycle, chip}
use Rattle.cached.specs.Coherent.{Fair}
use Rattle.directory.specs.Directory.{Entry, Request, idle, wants, queued, probing, fetching, fetches}
use Rattle.cached.specs.Kind.{Kind, Laws}
use Rattle.link.specs.Messages.{Grant}
use Rattle.cached.specs.Rv.{rv}
use Rattle.cached.proofs.Steps.{True}
use Rattle.cached.proofs.Interrupts.{acts_break}
use Rattle.cached.proofs.Drains.{inv_drains}
use Rattle.cached.proofs.Events.{handed_true, cycle_allowed}
use Rattle.cached.proofs.Falls.{answered, taken}
use Rattle.cached.proofs.Kept.{Inv, inv_kept}
use Rattle.cached.proofs.Lists.{at_line}
use Rattle.cached.proofs.Outs.{before_acts, body_did, cycle_steps, cycle_interrupts}
use Rattle.cached.proofs.Rv.{rv_laws}
use Rattle.cached.proofs.Turns.{inv_turns}
use Rattle.cached.proofs.Fetching.{few, once_each, unfetched_waits}

-- a line that is fetched is one of memory's
fetched_inside : (q : Request) (n k a : ℕ) (e : ℕ → Entry) (g : ℕ → Grant) → Fair n e g k q → n ≤ a → fetches q a ≡ false
fetched_inside idle n k a e g f l = refl
fetched_inside (wants b o p queued) n k a e g f l = refl
fetched_inside (wants b o p probing) n k a e g f l = refl
fetched_inside (wants b o p fetching) n k a e g f l = let z : b < n = f.home.0 in apart b a (omega arith)
  where
    apart : (b a : ℕ) → b < a → fetches (wants b o p fetching) a ≡ false
    apart b a l = grind arith

module _ (κ : Kind) (laws : Laws κ) where
  -- a core that goes, whose line is up and that lets them, takes an interrupt in this very cycle
  takes : (c : State κ) (b : Board) (μ : Manual κ.isa) (xs : List (ℕ × List ℕ)) (up : ℕ → Bool) (k : ℕ) → True (at_line b.memory) xs → Inv κ laws c b μ → k < c.count →
      up k ≡ true → κ.isa.lets (c.cpu k) ≡ true → c.on k ≡ true → 1 ≤ interrupts k (cycle κ c xs up).1.did
  unfolding cycle
  takes c b μ xs up k t h l u r o =
      let a = (answered κ laws c b.memory b.said μ h.agrees h.live xs t up k).1 in
      let w = (taken κ laws c b.memory b.said μ h.agrees h.live xs t up k).1 in
      rw (body_did κ xs up c) (acts_break κ laws up k u (before_acts κ xs c) (ap (λ (x : ℕ → Bool). x k) (a.on ∙ w.on) ∙ o)
      (ap (λ (x : ℕ → κ.isa.Cpu). κ.isa.lets (x k)) (a.cpu ∙ w.cpu) ∙ r) (subst (λ (n : ℕ). k < n) (sym (a.count ∙ w.count)) l) (let z = h.agrees.small in omega arith))

  faithful : Faithful κ.isa (chip κ) (Inv κ laws)
  faithful = record {
    same = λ c b μ k h. ap (said_by k) h.agrees.said;
    single = λ c b μ x k h. cycle_steps κ c (handed b.memory x.given 0 b.waiting) x.raised k;
    allowed = λ c b μ x h. cycle_allowed κ laws c b.memory b.said μ (handed b.memory x.given 0 b.waiting) x.raised (handed_true b.memory x.given 0 b.waiting) h.agrees;
    lowered = λ c b μ x k h d. cycle_interrupts κ c (handed b.memory x.given 0 b.waiting) x.raised k d;
    takes = λ c b μ x k h l u r o.
        let n : k < c.count = rw h.agrees.many at l in
        takes c b μ (handed b.memory x.given 0 b.waiting) x.raised k (handed_true b.memory x.given 0 b.waiting) h n u
        (sym (ap (λ (y : Core κ.isa). κ.isa.lets y.cpu) (h.agrees.cores k n)) ∙ r) (sym (ap (λ (y : Core κ.isa). y.on) (h.agrees.cores k n)) ∙ o);
  }

  pub bounded : Bounded κ.isa (chip κ) (Inv κ laws)
  bounded = record {
    few = λ c b μ h. let z = few _ b.waiting h.waits in omega arith;
    apart = λ c b μ a h. once_each c.size c.lines b.waiting a h.agrees.safe.tidy h.waits;
    inside = λ c b μ a h l. unfetched_waits c.lines.request b.waiting a
        (λ k. fetched_inside (c.lines.request k) c.size k a c.lines.entry c.lines.coming (h.agrees.safe.tidy.fair k) (rw h.agrees.outside at l)) h.waits;
    proper = λ c b μ h. h.agrees.proper;
  }

  pub owes : Owed κ.isa (chip κ)
  owes = record { Inv = Inv κ laws; kept = inv_kept κ laws; faithful = faithful; bounded = bounded; drains = inv_drains κ laws; turns = inv_turns κ laws }

-- all eight, for RV32I cores
pub cached_promises : Promises rv32 (chip rv)
cached_promises = promises rv32 (chip rv) (owes rv rv_laws)
