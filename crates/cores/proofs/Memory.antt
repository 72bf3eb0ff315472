-- Memories of lines of eight words of 32 bits stay so when a word of a line, or a line of memory, is replaced by another.
use Rattle.std.proofs.Common.{◌≡◌, ℕ, ◌<◌, ◌≤◌, eqb, ltb, List, [], length, get_or, set, ◌∙◌, arith, length-set, get_or-set_other, get_or-set_same}
use lib.ListN.{get_or-eq_default}
use Rattle.cores.specs.Promise.{Memory}
use Rattle.cores.proofs.Basics.{by_test, same, differ, less, not_less}

-- eight words of 32 bits
abbrev pub Line : List ℕ → Type 0
Line ws = (length ws ≡ 8) × ((j : ℕ) → get_or ws j 0 < 4294967296)

-- what holds of the new element, of what was there and of the default holds wherever a list is read after a write
pub read_set : {A : Type 0} (P : A → Type 0) (xs : List A) (i : ℕ) (x d : A) (j : ℕ) → P x → P d → P (get_or xs j d) → P (get_or (set xs i x) j d)
read_set P xs i x d j p q r = by_test (eqb j i)
    (λ e. by_test (ltb i (length xs)) (λ t. rw (same j i e, get_or-set_same xs i x d (less i (length xs) t)) p)
    (λ t. let past : length (set xs i x) ≤ j = rw (length-set xs i x, same j i e) (not_less i (length xs) t) in rw (get_or-eq_default (set xs i x) d past) q))
    (λ e. rw (get_or-set_other xs i j x d (differ j i e)) r)

pub memory_line : (m : List (List ℕ)) (a : ℕ) → Memory m → a < length m → Line (get_or m a [])
unfolding Memory
memory_line m a r l = (r.2 a l, r.3 a)

pub line_set : (ws : List ℕ) (i v : ℕ) → Line ws → v < 4294967296 → Line (set ws i v)
line_set ws i v h l = (length-set ws i v ∙ h.0, λ j. read_set (λ x. x < 4294967296) ws i v 0 j l (omega arith) (h.1 j))

pub memory_set : (m : List (List ℕ)) (a : ℕ) (ws : List ℕ) → Memory m → Line ws → Memory (set m a ws)
unfolding Memory
memory_set m a ws r h = (
  rw (length-set m a ws) r.0,
  rw (length-set m a ws) r.1,
  (λ k l. let l' : k < length m = rw (length-set m a ws) at l in
      by_test (eqb k a) (λ t. rw (same k a t, get_or-set_same m a ws [] (rw (same k a t) at l')) h.0) (λ t. rw (get_or-set_other m a k ws [] (differ k a t)) (r.2 k l'))),
  (λ k j. read_set (λ (v : List ℕ). get_or v j 0 < 4294967296) m a ws [] k (h.1 j) (omega arith) (r.3 k j)),
)
