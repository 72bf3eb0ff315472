-- A probe is answered: it is taken from its row, replied to, and a request that still probes waits again.
use Rattle.std.proofs.lemmas.Bool.{cond-true, cond-false}
use Rattle.std.proofs.Common.{◌≡◌, ℕ, ◌+◌, ◌*◌, Bool, true, false, Some, Option, sym, refl, ap, ◌∙◌}
use Rattle.cores.specs.Board.{Out}
use Rattle.cores.specs.Loop.{silent, then}
use Rattle.cores.specs.Machines.{pick}
use Rattle.cores.specs.Put.{put}
use Rattle.cores.specs.declared.port.Line.{Line}
use Rattle.cache.specs.Slots.{has}
use Rattle.cache.specs.Words.{is_write}
use Rattle.link.specs.Messages.{unasked}
use Rattle.link.specs.Words.{probe_of}
use Rattle.link.specs.declared.probe.Probe.{Probe}
use Rattle.cached.specs.Layout.{with_asked}
use Rattle.cached.specs.Puts.{only_writes}
use Rattle.cached.specs.Replied.{replies}
use Rattle.cached.specs.Rv.{rv}
use Rattle.cached.specs.Soc.{State, answer, answer_probe, drop_probe, lets_go, requeue_lead}
use Rattle.cached.proofs.Sequence.{then_is, then_quiet}

module _ (h s t u : State rv) (k : ℕ) (w : Option Line) (e : s ≡ with_asked h (put h.hints.probe k unasked)) (b : (u, silent) ≡ requeue_lead rv t) where
  -- the slot, which is looked at in state s, is the same in state h
  then_replied : (p a : ℕ) (o d : Bool) → has (h.lines.slot p) a ≡ d → (t, only_writes w) ≡ pick (has (s.lines.slot p) a) (lets_go rv p a o s) (s, silent) →
      (u, only_writes w) ≡ pick d (then (drop_probe rv k) (then (lets_go rv p a o) (requeue_lead rv)) h) (then (drop_probe rv k) (requeue_lead rv) h)
  then_replied p a o true d r =
      then_is (drop_probe rv k) (then (lets_go rv p a o) (requeue_lead rv)) h s u silent (only_writes w) (ap (λ (v : State rv). (v, silent)) e)
      (then_quiet (lets_go rv p a o) (requeue_lead rv) s t u (only_writes w) (r ∙ cond-true _ _ _ (ap (λ (v : State rv). has (v.lines.slot p) a) e ∙ d)) b)
  then_replied p a o false d r =
      let same : (t, only_writes w) ≡ (s, silent) = r ∙ cond-false _ _ _ (ap (λ (v : State rv). has (v.lines.slot p) a) e ∙ d) in
      ap (λ (v : State rv × Out). (u, v.1)) same
      ∙ then_is (drop_probe rv k) (requeue_lead rv) h s u silent silent (ap (λ (v : State rv). (v, silent)) e) (b ∙ ap (λ (v : State rv × Out). requeue_lead rv v.0) same)

  pub answered : (p : Probe) → h.hints.due k ≡ false → probe_of k (Some p) ≡ h.hints.probe k → (t, only_writes w) ≡ replies k p s → (u, only_writes w) ≡ answer_probe rv k h
  answered p f g r = then_replied (64 * k + p.slot) p.line (is_write p.access) _ refl r ∙ ap (λ v. answer rv k v h) g ∙ sym (cond-false _ _ _ f)
