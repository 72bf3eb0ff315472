-- Each move of copies keeps them coherent. For each part of `Coherent` a lemma on one or two places, with just the facts that it wants, by `grind arith`;
-- a record puts them together.
use Rattle.std.proofs.Common.{◌≡◌, ℕ, ◌/◌, Bool, true, false, eqb, ◌≢◌, List, arith}
use Rattle.cores.specs.Put.{put}
use Rattle.cores.proofs.Basics.{by_test, same}
use Rattle.cached.specs.Coherent.{Coherent, Copies, Good}
use Rattle.cache.specs.Slots.{Slot, dirties, empty, has, holds, lowered, owns, raised}

-- what place p has is handed back; a dirty line goes to memory
abbrev pub written : Slot → (ℕ → List ℕ) → ℕ → List ℕ
written empty m = m
written (holds a o true w) m = put m a w
written (holds a o false w) m = m

abbrev pub copy_goes : ℕ → Copies → Copies
copy_goes p c = record { at = put c.at p empty; memory = written (c.at p) c.memory; truth = c.truth }

-- a copy comes to place p
abbrev pub copy_comes : ℕ → Slot → Copies → Copies
copy_comes p x c = record { at = put c.at p x; memory = c.memory; truth = c.truth }

-- what place q hands back goes on to place p, which owns it then
abbrev pub copy_passes : ℕ → ℕ → Copies → Copies
copy_passes q p c = record { at = put (put c.at q empty) p (raised (c.at q)); memory = c.memory; truth = c.truth }

-- what place p has may only be read, from now on; a dirty line goes to memory
abbrev pub copy_lowers : ℕ → Copies → Copies
copy_lowers p c = record { at = put c.at p (lowered (c.at p)); memory = written (c.at p) c.memory; truth = c.truth }

-- a store in line a, which place p owns
abbrev pub copy_stores : ℕ → ℕ → List ℕ → Copies → Copies
copy_stores p a w c = record { at = put c.at p (holds a true true w); memory = c.memory; truth = put c.truth a w }

module _ (at : ℕ → Slot) (p₀ p q a : ℕ) where
  go_single : (owns (at p) a ≡ true → has (at q) a ≡ true → p ≡ q) → owns (put at p₀ empty p) a ≡ true → has (put at p₀ empty q) a ≡ true → p ≡ q
  go_single h u v = grind arith

  go_once : (p / 64 ≡ q / 64 → has (at p) a ≡ true → has (at q) a ≡ true → p ≡ q) → p / 64 ≡ q / 64 → has (put at p₀ empty p) a ≡ true → has (put at p₀ empty q) a ≡ true → p ≡ q
  go_once h e u v = grind arith

  lower_single : (owns (at p) a ≡ true → has (at q) a ≡ true → p ≡ q) → owns (put at p₀ (lowered (at p₀)) p) a ≡ true → has (put at p₀ (lowered (at p₀)) q) a ≡ true → p ≡ q
  lower_single h u v = grind arith

  lower_once : (p / 64 ≡ q / 64 → has (at p) a ≡ true → has (at q) a ≡ true → p ≡ q) → p / 64 ≡ q / 64 →
      has (put at p₀ (lowered (at p₀)) p) a ≡ true → has (put at p₀ (lowered (at p₀)) q) a ≡ true → p ≡ q
  lower_once h e u v = grind arith

module _ (at : ℕ → Slot) (p₀ p : ℕ) (m : ℕ → List ℕ) where
  go_good : Good m (at p) → Good m (put at p₀ empty p)
  go_good h = grind arith

  lower_good : Good m (at p) → Good m (put at p₀ (lowered (at p₀)) p)
  lower_good h = grind arith

module _ (x : Slot) (a : ℕ) (m t : ℕ → List ℕ) where
  written_dirty : Good t x → dirties x a ≡ true → written x m a ≡ t a
  written_dirty g e = grind arith

  written_other : dirties x a ≡ false → m a ≡ t a → written x m a ≡ t a
  written_other e h = grind arith

module _ (at : ℕ → Slot) (p₀ p a : ℕ) where
  go_dirt : dirties (at p₀) a ≡ false → dirties (put at p₀ empty p) a ≡ false → dirties (at p) a ≡ false
  go_dirt e n = grind arith

  lower_dirt : dirties (at p₀) a ≡ false → dirties (put at p₀ (lowered (at p₀)) p) a ≡ false → dirties (at p) a ≡ false
  lower_dirt e n = grind arith

pub go_coherent : (p : ℕ) (c : Copies) → Coherent c → Coherent (copy_goes p c)
go_coherent p₀ c h = record {
  single = λ p q a. go_single c.at p₀ p q a (h.single p q a);
  once = λ p q a. go_once c.at p₀ p q a (h.once p q a);
  good = λ p. go_good c.at p₀ p c.truth (h.good p);
  stored = λ a n. by_test (dirties (c.at p₀) a) (written_dirty (c.at p₀) a c.memory c.truth (h.good p₀))
      (λ e. written_other (c.at p₀) a c.memory c.truth e (h.stored a (λ p. go_dirt c.at p₀ p a e (n p))));
}

pub lower_coherent : (p : ℕ) (c : Copies) → Coherent c → Coherent (copy_lowers p c)
lower_coherent p₀ c h = record {
  single = λ p q a. lower_single c.at p₀ p q a (h.single p q a);
  once = λ p q a. lower_once c.at p₀ p q a (h.once p q a);
  good = λ p. lower_good c.at p₀ p c.truth (h.good p);
  stored = λ a n. by_test (dirties (c.at p₀) a) (written_dirty (c.at p₀) a c.memory c.truth (h.good p₀))
      (λ e. written_other (c.at p₀) a c.memory c.truth e (h.stored a (λ p. lower_dirt c.at p₀ p a e (n p))));
}

-- a copy comes to an empty place
module _ (at : ℕ → Slot) (p₀ a₀ : ℕ) (o d : Bool) (w : List ℕ) where
  gain_single : (p q a : ℕ) → (owns (at p) a ≡ true → has (at q) a ≡ true → p ≡ q) → owns (at p) a₀ ≡ false → (o ≡ true → has (at q) a₀ ≡ false) →
      owns (put at p₀ (holds a₀ o d w) p) a ≡ true → has (put at p₀ (holds a₀ o d w) q) a ≡ true → p ≡ q
  gain_single p q a h f g u v = grind arith

  gain_once : (p q a : ℕ) → (p / 64 ≡ q / 64 → has (at p) a ≡ true → has (at q) a ≡ true → p ≡ q) → (p / 64 ≡ p₀ / 64 → has (at p) a₀ ≡ false) → (q / 64 ≡ p₀ / 64 → has (at q) a₀ ≡ false) →
      p / 64 ≡ q / 64 → has (put at p₀ (holds a₀ o d w) p) a ≡ true → has (put at p₀ (holds a₀ o d w) q) a ≡ true → p ≡ q
  gain_once p q a h f g e u v = grind arith

  gain_good : (p : ℕ) (m : ℕ → List ℕ) → w ≡ m a₀ → (o ≡ false → d ≡ false) → Good m (at p) → Good m (put at p₀ (holds a₀ o d w) p)
  gain_good p m e f h = grind arith

  gain_dirt : (p a : ℕ) → at p₀ ≡ empty → dirties (put at p₀ (holds a₀ o d w) p) a ≡ false → dirties (at p) a ≡ false
  gain_dirt p a e n = grind arith

pub gain_coherent : (p a : ℕ) (o d : Bool) (w : List ℕ) (c : Copies) → Coherent c → c.at p ≡ empty → w ≡ c.truth a → (o ≡ false → d ≡ false) →
    ((q : ℕ) → owns (c.at q) a ≡ false) → ((q : ℕ) → o ≡ true → has (c.at q) a ≡ false) → ((q : ℕ) → q / 64 ≡ p / 64 → has (c.at q) a ≡ false) →
    Coherent (copy_comes p (holds a o d w) c)
gain_coherent p₀ a₀ o d w c h free same dirt unowned none mine = record {
  single = λ p q a. gain_single c.at p₀ a₀ o d w p q a (h.single p q a) (unowned p) (none q);
  once = λ p q a. gain_once c.at p₀ a₀ o d w p q a (h.once p q a) (mine p) (mine q);
  good = λ p. gain_good c.at p₀ a₀ o d w p c.truth same dirt (h.good p);
  stored = λ a n. h.stored a (λ p. gain_dirt c.at p₀ a₀ o d w p a free (n p));
}

-- a store
module _ (at : ℕ → Slot) (p₀ a₀ : ℕ) (w : List ℕ) (own : owns (at p₀) a₀ ≡ true) where
  store_single : (p q a : ℕ) → (owns (at p) a ≡ true → has (at q) a ≡ true → p ≡ q) → owns (put at p₀ (holds a₀ true true w) p) a ≡ true → has (put at p₀ (holds a₀ true true w) q) a ≡ true → p ≡ q
  store_single p q a h u v = grind arith

  store_once : (p q a : ℕ) → (p / 64 ≡ q / 64 → has (at p) a ≡ true → has (at q) a ≡ true → p ≡ q) →
      p / 64 ≡ q / 64 → has (put at p₀ (holds a₀ true true w) p) a ≡ true → has (put at p₀ (holds a₀ true true w) q) a ≡ true → p ≡ q
  store_once p q a h e u v = grind arith

  store_good : (p : ℕ) (m : ℕ → List ℕ) → (has (at p) a₀ ≡ true → p₀ ≡ p) → Good m (at p) → Good (put m a₀ w) (put at p₀ (holds a₀ true true w) p)
  store_good p m f h = grind arith

  store_dirt : (p a : ℕ) → a ≢ a₀ → dirties (put at p₀ (holds a₀ true true w) p) a ≡ false → dirties (at p) a ≡ false
  store_dirt p a e n = grind arith

  store_here : (a : ℕ) → eqb a a₀ ≡ true → dirties (put at p₀ (holds a₀ true true w) p₀) a ≡ false → ⊥
  store_here a e n = grind arith

store_there : (t : ℕ → List ℕ) (a₀ : ℕ) (w : List ℕ) (a : ℕ) (m : List ℕ) → eqb a a₀ ≡ false → m ≡ t a → m ≡ put t a₀ w a
store_there t a₀ w a m e h = grind arith

pub store_coherent : (p a : ℕ) (w : List ℕ) (c : Copies) → owns (c.at p) a ≡ true → Coherent c → Coherent (copy_stores p a w c)
store_coherent p₀ a₀ w c own h = record {
  single = λ p q a. store_single c.at p₀ a₀ w own p q a (h.single p q a);
  once = λ p q a. store_once c.at p₀ a₀ w own p q a (h.once p q a);
  good = λ p. store_good c.at p₀ a₀ w own p c.truth (h.single p₀ p a₀ own) (h.good p);
  stored = λ a n. by_test (eqb a a₀) (λ e. absurd (store_here c.at p₀ a₀ w own a e (n p₀)))
      (λ e. store_there c.truth a₀ w a (c.memory a) e (h.stored a (λ p. store_dirt c.at p₀ a₀ w own p a (grind arith) (n p))));
}

-- a copy that nobody else has goes from one place to another
module _ (at : ℕ → Slot) (q₀ p₀ : ℕ) (free : at p₀ ≡ empty) where
  pass_single : (p q a : ℕ) → (owns (at p) a ≡ true → has (at q) a ≡ true → p ≡ q) → (has (at q₀) a ≡ true → has (at p) a ≡ true → p ≡ q₀) → (has (at q₀) a ≡ true → has (at q) a ≡ true → q ≡ q₀) →
      owns (put (put at q₀ empty) p₀ (raised (at q₀)) p) a ≡ true → has (put (put at q₀ empty) p₀ (raised (at q₀)) q) a ≡ true → p ≡ q
  pass_single p q a h f g u v = grind arith

  pass_once : (p q a : ℕ) → (p / 64 ≡ q / 64 → has (at p) a ≡ true → has (at q) a ≡ true → p ≡ q) → (has (at q₀) a ≡ true → has (at p) a ≡ true → p ≡ q₀) → (has (at q₀) a ≡ true → has (at q) a ≡ true → q ≡ q₀) →
      p / 64 ≡ q / 64 → has (put (put at q₀ empty) p₀ (raised (at q₀)) p) a ≡ true → has (put (put at q₀ empty) p₀ (raised (at q₀)) q) a ≡ true → p ≡ q
  pass_once p q a h f g e u v = grind arith

  pass_good : (p : ℕ) (m : ℕ → List ℕ) → Good m (at q₀) → Good m (at p) → Good m (put (put at q₀ empty) p₀ (raised (at q₀)) p)
  pass_good p m g h = grind arith

  pass_dirt : (p a : ℕ) → dirties (put (put at q₀ empty) p₀ (raised (at q₀)) p) a ≡ false → dirties (put (put at q₀ empty) p₀ (raised (at q₀)) p₀) a ≡ false → dirties (at p) a ≡ false
  pass_dirt p a n m = grind arith

pub pass_coherent : (q p : ℕ) (c : Copies) → c.at p ≡ empty → Coherent c → ((r a : ℕ) → has (c.at q) a ≡ true → has (c.at r) a ≡ true → r ≡ q) → Coherent (copy_passes q p c)
pass_coherent q₀ p₀ c free h alone = record {
  single = λ p q a. pass_single c.at q₀ p₀ free p q a (h.single p q a) (alone p a) (alone q a);
  once = λ p q a. pass_once c.at q₀ p₀ free p q a (h.once p q a) (alone p a) (alone q a);
  good = λ p. pass_good c.at q₀ p₀ free p c.truth (h.good q₀) (h.good p);
  stored = λ a n. h.stored a (λ p. pass_dirt c.at q₀ p₀ free p a (n p) (n p₀));
}
