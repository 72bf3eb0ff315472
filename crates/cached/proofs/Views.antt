-- What a core does depends on its own places of the cache, and on its own registers and messages.
use Rattle.std.proofs.Common.{◌≡◌, ℕ, suc, ◌/◌, refl, ap, ◌∙◌, inl, inr}
use Rattle.rv32.specs.declared.core_state.Need.{Need}
use Rattle.rv32.specs.declared.core_state.Need.TheVariants.{Nothing, Read, Write}
use Rattle.cores.specs.Machines.{pick}
use Rattle.cached.specs.Soc.{State, may_send, lacked}
use Rattle.cached.specs.Kind.{Kind, code, operand}
use Rattle.link.specs.Messages.{Probe, is_unasked}
use Rattle.cached.specs.Rank.{far, further, out_of, requests_left}
use Rattle.cache.specs.Slots.{home, Found, Lack, Slot, cached, find, first, found, missing, seek, to_read, to_write, word_at}
use Rattle.cached.proofs.Steps.{find_place, home_place}

module _ (k : ℕ) (f g : ℕ → Slot) (h : (p : ℕ) → p / 64 ≡ k → g p ≡ f p) where
  find_same : (a : ℕ) → find g k a ≡ find f k a
  find_same a = rw (h (home k a) (home_place k a (home k a) (inl refl)).0, h (suc (home k a)) (home_place k a (suc (home k a)) (inr refl)).0)

  seek_same : (t : Need) → seek g k t ≡ seek f k t
  seek_same Nothing = refl
  seek_same (Read x) = ap (λ (r : Found). to_read r x) (find_same (x / 8))
  seek_same (Write x) = ap (λ (r : Found). to_write g r x) (find_same (x / 8)) ∙ go (find f k (x / 8)) refl
    where
      go : (r : Found) → find f k (x / 8) ≡ r → to_write g r x ≡ to_write f r x
      go missing e = refl
      go (found p) e = rw (h p (find_place f k (x / 8) p e).0)

  cached_at : (x : ℕ) → cached g k x ≡ cached f k x
  cached_at x = ap (λ (r : Found). word_at g r x) (find_same (x / 8)) ∙ go (find f k (x / 8)) refl
    where
      go : (r : Found) → find f k (x / 8) ≡ r → word_at g r x ≡ word_at f r x
      go missing e = refl
      go (found p) e = rw (h p (find_place f k (x / 8) p e).0)

  pub cached_same : cached g k ≡ cached f k
  cached_same = λ i x. cached_at x i

  module _ (κ : Kind) where
    pub left_same : (n : ℕ) (x : κ.isa.Cpu) (out : Lack) → requests_left κ n x g k out ≡ requests_left κ n x f k out
    left_same n x out = ap (λ (s : Lack). far s out (code κ n x) (operand κ n x (cached g k))) (seek_same (code κ n x))
        ∙ ap (λ (w : ℕ → ℕ). far (seek f k (code κ n x)) out (code κ n x) (operand κ n x w)) cached_same

    pub need_same : (n : ℕ) (x : κ.isa.Cpu) → first (seek g k (code κ n x)) (seek g k (operand κ n x (cached g k))) ≡ first (seek f k (code κ n x)) (seek f k (operand κ n x (cached f k)))
    need_same n x = ap (λ (s : Lack). first s (seek g k (operand κ n x (cached g k)))) (seek_same (code κ n x))
        ∙ ap (λ (s : Lack). first (seek f k (code κ n x)) s) (seek_same (operand κ n x (cached g k)) ∙ ap (λ (w : ℕ → ℕ). seek f k (operand κ n x w)) cached_same)

module _ (κ : Kind) (f : ℕ) where
  -- all that core f sees is the same in two chips
  pub record Same (c d : State κ) : Type 0 where
    pub request : d.lines.request f ≡ c.lines.request f
    pub coming : d.lines.coming f ≡ c.lines.coming f
    pub cpu : d.cpu f ≡ c.cpu f
    pub on : d.on f ≡ c.on f
    pub slot : (p : ℕ) → p / 64 ≡ f → d.lines.slot p ≡ c.lines.slot p
    pub probe : d.hints.probe f ≡ c.hints.probe f
    pub due : d.hints.due f ≡ c.hints.due f
    pub size : d.size ≡ c.size
    pub count : d.count ≡ c.count

  pub same_then : (b c d : State κ) → Same b c → Same c d → Same b d
  same_then b c d x y = record {
    request = y.request ∙ x.request;
    coming = y.coming ∙ x.coming;
    cpu = y.cpu ∙ x.cpu;
    on = y.on ∙ x.on;
    slot = λ p e. y.slot p e ∙ x.slot p e;
    probe = y.probe ∙ x.probe;
    due = y.due ∙ x.due;
    size = y.size ∙ x.size;
    count = y.count ∙ x.count;
  }

  module _ (c d : State κ) (h : Same c d) where
    pub further_same : further κ d f ≡ further κ c f
    further_same = ap (λ (t : Probe). pick (is_unasked t) (requests_left κ d.size (d.cpu f) d.lines.slot f (out_of (d.lines.request f) (d.lines.coming f))) 3) h.probe
        ∙ ap (λ (n : ℕ). pick (is_unasked (c.hints.probe f)) n 3)
        (left_same f c.lines.slot d.lines.slot h.slot κ d.size (d.cpu f) (out_of (d.lines.request f) (d.lines.coming f))
        ∙ rw (h.size, h.cpu, h.request, h.coming))

    pub needs_same : lacked κ d f ≡ lacked κ c f
    needs_same = need_same f c.lines.slot d.lines.slot h.slot κ d.size (d.cpu f) ∙ rw (h.size, h.cpu)

    pub send_same : may_send κ d f ≡ may_send κ c f
    send_same = rw (h.due, h.probe)
