-- Rows of messages in lent words.
use Rattle.std.proofs.Common.{◌≡◌, ℕ, ◌+◌, ◌*◌, ◌%◌, ◌<◌, ◌≤◌, Bool, true, false, not, ◌&&◌, eqb, List, [], ◌∷◌, length, get_or, Some, None, sym, refl, ap, ◌∙◌, ap₂, arith}
use borrow.Rule.Slice.PartMut.{put_mid}
use Rattle.std.specs.List.{list_all, range_with_len}
use Rattle.std.proofs.lemmas.Bool.{le-ltb, ne_eqb, cond-true, cond-false}
use Rattle.words.specs.Parts.{part}
use Rattle.words.proofs.Parts.{part_here, put_length}
use Rattle.cores.specs.Machines.{pick}
use Rattle.cache.specs.Slots.{Slot}
use Rattle.cache.specs.declared.slot.Access.TheVariants.{Read, Write}
use Rattle.cache.specs.Words.{content_of, slot_of}
use Rattle.link.specs.Messages.{all_unasked, grant, is_unasked, quiet, unasked}
use Rattle.link.specs.Words.{flag, grant_in, grant_of, grants_of, probe_in, probe_of, probes_of}
use Rattle.link.specs.declared.grant.Grant.{Grant}
use Rattle.link.proofs.Tables.{table_cleared}

-- all of the four are asked nothing
all_four : (a b c d : Bool) → list_all (λ t. t) (a ∷ b ∷ c ∷ d ∷ []) ≡ (a && b && c && d)
all_four true true true true = refl
all_four true true true false = refl
all_four true true false d = refl
all_four true false c d = refl
all_four false b c d = refl

pub nobody : (w : List ℕ) (r : Bool) → r ≡ list_all (λ k. is_unasked (probes_of w k)) (range_with_len 0 4) → r ≡ all_unasked (probes_of w)
nobody w r e = let f = probes_of w in e ∙ all_four (is_unasked (f 0)) (is_unasked (f 1)) (is_unasked (f 2)) (is_unasked (f 3))

-- a grant that is read, and one that is written, the first two words first
pub grant_read : (b : List ℕ) (k i : ℕ) (x : Slot) → (get_or b 0 0 ≡ 0 → ⊥) → i ≡ get_or b 1 0 % 64 → x ≡ slot_of (part 2 10 b) → grant (64 * k + i) x ≡ grant_in k b
grant_read b k i x e s f = ap₂ (λ j y. grant (64 * k + j) y) s f ∙ sym (cond-true _ _ _ (ap not (ne_eqb (get_or b 0 0) 0 e)))

pub grant_written : (b ys zs : List ℕ) (g : Grant) (k n : ℕ) → length b ≡ 12 → n < 64 → n ≡ g.slot → ys ≡ 1 ∷ n ∷ [] → length zs ≡ 10 → slot_of zs ≡ content_of g.content →
    grant_in k (put_mid 2 10 (put_mid 0 2 b ys) zs) ≡ grant_of k (Some g)
grant_written b ys zs g k n m h j e l f =
    rw e
    (let front : List ℕ = 1 ∷ n ∷ [] in
    let r : length (put_mid 0 2 b front) ≡ 12 = put_length 0 2 b front refl (omega arith) ∙ m in
    let small : n % 64 ≡ g.slot = omega arith in
    ap₂ (λ i x. grant (64 * k + i) x) small (ap slot_of (part_here 2 10 10 (put_mid 0 2 b front) zs l (omega arith)) ∙ f))

-- words that are all 0 are rows in which nothing is on its way
pub nothing_granted : (w : List ℕ) → ((i : ℕ) → get_or w i 0 ≡ 0) → grants_of w ≡ (λ k. quiet)
nothing_granted w z = table_cleared grant_in quiet 4 12 w (omega arith) (λ k b e. ap (λ x. pick (flag x) (grant (64 * k + get_or b 1 0 % 64) (slot_of (part 2 10 b))) quiet) e) z

pub nothing_asked : (w : List ℕ) → ((i : ℕ) → get_or w i 0 ≡ 0) → probes_of w ≡ (λ k. unasked)
nothing_asked w z = table_cleared (λ k b. probe_of k (probe_in b)) unasked 4 3 w (omega arith) (λ k b e. ap (λ t. probe_of k (pick (eqb t 0) None (Some (record { slot = get_or b 1 0 % 64; line = get_or b 2 0; access = pick (eqb t 1) Read Write })))) e) z

-- nobody beyond the four is asked
pub unasked_beyond : (w : List ℕ) (k : ℕ) → 4 ≤ k → probes_of w k ≡ unasked
unasked_beyond w k h = cond-false _ _ _ (le-ltb k 4 h)
