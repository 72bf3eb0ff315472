-- The lines of the chip, in caches, on their way, and in the directory's books; and how they move.
-- Assumes nothing: these are definitions.
use Rattle.std.specs.Prelude.{ℕ, zero, suc, ◌/◌, ◌%◌, true, false, List, [], ◌∷◌, ◌==◌, slice_set}
use Rattle.rv32.specs.Did.{Did, goes, stores, says, stops}
use Rattle.cores.specs.Machines.{pick}
use Rattle.cores.specs.Put.{put}
use Rattle.cache.specs.Slots.{Slot, empty, holds, words, lowered, Found, missing, found, find}
use Rattle.link.specs.Messages.{Grant, quiet, grant, filled}
use Rattle.directory.specs.Directory.{Entry, tag, Request, idle, wants, queued, probing, fetching}

-- the slot at each place; the grant on its way to each core; the directory's entry for each place; and each core's request
pub record Lines : Type 0 where
  pub slot : ℕ → Slot
  pub coming : ℕ → Grant
  pub entry : ℕ → Entry
  pub request : ℕ → Request

-- core k takes the grant that has come
abbrev pub takes : ℕ → Lines → Lines
takes k l = record { slot = filled (l.coming k) l.slot; coming = put l.coming k quiet; entry = l.entry; request = l.request }

-- place p has x from now on, and the directory hears of it in the same cycle
abbrev pub sets : ℕ → Slot → Lines → Lines
sets p x l = record { slot = put l.slot p x; coming = l.coming; entry = put l.entry p (tag x); request = l.request }

-- place p is handed back
abbrev pub releases : ℕ → Lines → Lines
releases p l = sets p empty l

-- what place p has may only be read from now on
abbrev pub lowers : ℕ → Lines → Lines
lowers p l = sets p (lowered (l.slot p)) l

-- core k is granted what it asked for: x, for place p
abbrev pub grants : ℕ → ℕ → Slot → Lines → Lines
grants k p x l = record { slot = l.slot; coming = put l.coming k (grant p x); entry = put l.entry p (tag x); request = put l.request k idle }

-- core k's request is r from now on
abbrev pub asks : ℕ → Request → Lines → Lines
asks k r l = record { slot = l.slot; coming = l.coming; entry = l.entry; request = put l.request k r }

-- a store: place p, which owns line a, has the words w
abbrev pub fills : ℕ → ℕ → List ℕ → Lines → Lines
fills p a w l = record { slot = put l.slot p (holds a true true w); coming = l.coming; entry = l.entry; request = l.request }

-- word y is v from now on, where its line is found
abbrev pub stored : Found → ℕ → ℕ → Lines → Lines
stored missing y v l = l
stored (found p) y v l = fills p (y / 8) (slice_set (words (l.slot p)) (y % 8) v) l

-- the lines after an instruction of core k
abbrev pub lines_after : {Cpu : Type 0} → ℕ → Did Cpu → Lines → Lines
lines_after k (goes d) l = l
lines_after k (stores y v d) l = stored (find l.slot k (y / 8)) y v l
lines_after k (says x d) l = l
lines_after k stops l = l

-- line a comes from memory with words w: core k is granted it to write, even where it asked to read, if it fetches it
abbrev pub delivered : ℕ → ℕ → List ℕ → Request → Lines → Lines
delivered k a w idle l = l
delivered k a w (wants b o p queued) l = l
delivered k a w (wants b o p probing) l = l
delivered k a w (wants b o p fetching) l = pick (b == a) (grants k p (holds b true false w) l) l

-- a line comes, for one of the first k cores
unfoldable pub deliver_one : ℕ → ℕ → List ℕ → Lines → Lines
deliver_one zero a w l = l
deliver_one (suc k) a w l = let r = deliver_one k a w l in delivered k a w (r.request k) r

-- all lines that come
unfoldable pub deliver_all : ℕ → List (ℕ × List ℕ) → Lines → Lines
deliver_all n [] l = l
deliver_all n (x ∷ xs) l = deliver_all n xs (deliver_one n x.0 x.1 l)
