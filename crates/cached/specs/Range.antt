-- States that fit in words: what a bounded word can hold of each number, and nothing of cores and places that are not there.
-- Assumes nothing: these are definitions.
use Rattle.std.specs.Prelude.{◌≡◌, ℕ, ◌<◌, ◌≤◌, Bool, true, false, List, [], ◌∷◌, length}
use Rattle.cached.specs.Kind.{Kind}
use Rattle.cached.specs.Rv.{rv}
use Rattle.cache.specs.Slots.{Slot, empty, holds}
use Rattle.link.specs.Messages.{Grant, quiet, grant, Probe, unasked, ask}
use Rattle.directory.specs.Directory.{nobody, Request, idle, wants}
use Rattle.cached.specs.Lines.{Lines}
use Rattle.cached.specs.Soc.{State, fresh, cycle}

-- a slot has eight words, and what it may only read is not dirty
abbrev pub SlotFits : Slot → Type 0
SlotFits empty = Unit {0}
SlotFits (holds a o d w) = (length w ≡ 8) × (o ≡ false → d ≡ false)

-- places are below 256
abbrev pub GrantFits : Grant → Type 0
GrantFits quiet = Unit {0}
GrantFits (grant p x) = (p < 256) × SlotFits x

abbrev pub RequestFits : Request → Type 0
RequestFits idle = Unit {0}
RequestFits (wants a o p s) = p < 256

abbrev pub ProbeFits : Probe → Type 0
ProbeFits unasked = Unit {0}
ProbeFits (ask p a o) = p < 256

pub record LinesFit (l : Lines) : Type 0 where
  pub slot : (p : ℕ) → SlotFits (l.slot p)
  pub coming : (k : ℕ) → GrantFits (l.coming k)
  pub request : (k : ℕ) → RequestFits (l.request k)
  -- nothing is at a place that is not there
  pub no_slot : (p : ℕ) → 256 ≤ p → l.slot p ≡ empty
  pub no_entry : (p : ℕ) → 256 ≤ p → l.entry p ≡ nobody
  -- and nothing is on its way to a core that is not there, or asked for by it
  pub no_coming : (k : ℕ) → 4 ≤ k → l.coming k ≡ quiet
  pub no_request : (k : ℕ) → 4 ≤ k → l.request k ≡ idle

module _ (κ : Kind) where
  pub record Fits (c : State κ) : Type 0 where
    pub count : c.count ≤ 4
    pub turn : c.hints.turn < 4
    pub lead : c.hints.lead < 4
    pub sweep : (k : ℕ) → c.hints.sweep k < 64
    pub probe : (k : ℕ) → ProbeFits (c.hints.probe k)
    pub lines : LinesFit c.lines
    -- of a core that is not there
    pub no_cpu : (k : ℕ) → 4 ≤ k → c.cpu k ≡ κ.isa.start 0
    pub no_on : (k : ℕ) → 4 ≤ k → c.on k ≡ false
    pub no_probe : (k : ℕ) → 4 ≤ k → c.hints.probe k ≡ unasked
    pub no_due : (k : ℕ) → 4 ≤ k → c.hints.due k ≡ true
    pub no_sweep : (k : ℕ) → 4 ≤ k → c.hints.sweep k ≡ 0

-- lines of eight words come
abbrev pub Eights : List (ℕ × List ℕ) → Type 0
Eights [] = Unit {0}
Eights (x ∷ xs) = (length x.1 ≡ 8) × Eights xs

-- A NEW CHIP FITS, AND A CYCLE KEEPS THAT, whatever else the words have
pub record StaysInRange : Type 0 where
  pub new : (n size : ℕ) → n ≤ 4 → Fits rv (fresh rv n size)
  pub kept : (c : State rv) (xs : List (ℕ × List ℕ)) (up : ℕ → Bool) → Eights xs → Fits rv c → Fits rv (cycle rv c xs up).0
