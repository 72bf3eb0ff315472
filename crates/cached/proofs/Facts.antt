-- Small facts of slots, messages, requests and needs that the other proofs share.
use Rattle.std.proofs.Common.{◌≡◌, ℕ, ◌/◌, ◌<◌, ◌≤◌, Bool, true, false, ◌≢◌, refl, ap, ◌∙◌, arith}
use Rattle.rv32.specs.declared.core_state.Need.{Need}
use Rattle.rv32.specs.declared.core_state.Need.TheVariants.{Nothing, Read, Write}
use Rattle.cores.specs.Put.{put}
use Rattle.cache.specs.Slots.{Slot, has, Lack, ready, lacks}
use Rattle.link.specs.Messages.{Grant, quiet, grant, is_quiet, Probe, unasked, ask, is_unasked, all_unasked}
use Rattle.directory.specs.Directory.{Entry, tag, held, Stage, Request, idle, wants, fetches}
use Rattle.cached.specs.Coherent.{Fair}
use Rattle.cached.specs.Rank.{far, stuck, any_stuck}
use Rattle.cached.proofs.Base.{at_put, clash}

pub not_ready : {P : Type 0} (a : ℕ) (o : Bool) → lacks a o ≡ ready → P
not_ready a o e = let z : ◌≡◌ {A = ℕ} 0 1 = cc in absurd (omega arith)

pub not_wants : {P : Type 0} (a p : ℕ) (o : Bool) (s : Stage) → idle ≡ wants a o p s → P
not_wants a p o s e = let z : ◌≡◌ {A = ℕ} 0 1 = cc in absurd (omega arith)

pub quiet_is : (x : Grant) → is_quiet x ≡ true → x ≡ quiet
quiet_is quiet e = refl
quiet_is (grant p x) e = clash e refl

-- what the directory says of a place is there
pub tag_held : (x : Slot) (e : Entry) (a : ℕ) → e ≡ tag x → held e a ≡ true → has x a ≡ true
tag_held x e a i u = grind arith

-- a place of core k is none of another core's
pub put_far : (k : ℕ) (f : ℕ → Slot) (q p : ℕ) (x : Slot) → q / 64 ≡ k → p / 64 ≢ k → put f q x p ≡ f p
put_far k f q p x e n = at_put (λ z. z ≡ f p) f q x p (λ i. absurd (n (ap (λ (z : ℕ). z / 64) i ∙ e))) (λ i. refl)

pub small_unasked : (t : ℕ → Probe) (i : ℕ) → i < 4 → all_unasked t ≡ true → is_unasked (t i) ≡ true
small_unasked t i l u = grind arith

-- no probe stands behind a grant where each core that is asked has none
stuck_none : (t : Probe) (g : Grant) → (is_unasked t ≡ false → is_quiet g ≡ true) → stuck t g ≡ false
stuck_none unasked g h = refl
stuck_none (ask p a o) g h = rw (h refl)

pub stuck_free : (t : ℕ → Probe) (g : ℕ → Grant) → ((k : ℕ) → is_unasked (t k) ≡ false → is_quiet (g k) ≡ true) → any_stuck t g ≡ false
stuck_free t g h = rw (stuck_none (t 0) (g 0) (h 0), stuck_none (t 1) (g 1) (h 1), stuck_none (t 2) (g 2) (h 2), stuck_none (t 3) (g 3) (h 3))

-- a request's core is one of four
pub fetch_small : (q : Request) (i a n : ℕ) (e : ℕ → Entry) (h : ℕ → Grant) → Fair n e h i q → fetches q a ≡ true → i < 4
fetch_small idle i a n e h k u = clash u refl
fetch_small (wants b o p st) i a n e h k u = let z : p / 64 ≡ i = k.mine in let y : p < 256 = k.home.2 in omega arith

-- an instruction wants three requests at most
pub far_three : (x y : Lack) (i j : Need) → far x y i j ≤ 3
far_three ready y i Nothing = omega arith
far_three ready y i (Read k) = grind arith
far_three ready y i (Write k) = grind arith
far_three (lacks a o) y i j = grind arith
