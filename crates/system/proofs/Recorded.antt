-- What a recorder keeps, read word by word and event by event.
use Rattle.std.proofs.Common.{◌≡◌, ℕ, ◌+◌, ◌*◌, ◌<◌, ◌≤◌, List, [], ◌∷◌, ◌++◌, map, length, get_or, take, Some, None, Option, sym, refl, ap, ◌∙◌, append_assoc}
use Rattle.std.proofs.lemmas.List.{take_more, take_all, map-append}
use Rattle.std.proofs.lemmas.Bool.{cond-false, ne_eqb}
use Rattle.cores.specs.Machines.{Event}
use Rattle.cores.specs.Ports.{said_at, somes}
use Rattle.system.specs.Log.{Log}

-- a core that has said something
pub said_here : (words : List ℕ) (k : ℕ) → (get_or words (2 * k) 0 ≡ 0 → ⊥) → said_at words k ≡ (k, get_or words (2 * k + 1) 0) ∷ []
said_here words k n = cond-false _ _ _ (ne_eqb (get_or words (2 * k) 0) 0 n)

-- one more, read by `of`
pub map_push : {A B : Type 0} (of : A → B) (ys xs : List A) (x : A) (r : List B) → ys ≡ xs ++ x ∷ [] → of x ∷ [] ≡ r → map of ys ≡ map of xs ++ r
map_push of ys xs x r e f = ap (map of) e ∙ map-append of xs (x ∷ []) ∙ ap (λ t. map of xs ++ t) f

pub somes_append : {A B : Type 0} (of : A → B) (xs ys : List (Option A)) → somes of (xs ++ ys) ≡ somes of xs ++ somes of ys
somes_append of [] ys = refl
somes_append of (None ∷ xs) ys = somes_append of xs ys
somes_append of (Some x ∷ xs) ys = ap (λ t. of x ∷ t) (somes_append of xs ys)

-- one place more of a row
pub somes_next : {A B : Type 0} (of : A → B) (row : List (Option A)) (i : ℕ) (d : Option A) (base now next : List B) → i < length row →
    now ≡ base ++ somes of (take i row) → next ≡ now ++ somes of (get_or row i d ∷ []) → next ≡ base ++ somes of (take (i + 1) row)
somes_next of row i d base now next h e f =
    f ∙ ap (λ t. t ++ somes of (get_or row i d ∷ [])) e ∙ append_assoc base (somes of (take i row)) (somes of (get_or row i d ∷ []))
    ∙ ap (λ t. base ++ t) (sym (somes_append of (take i row) (get_or row i d ∷ [])) ∙ ap (somes of) (sym (take_more row i d h)))

pub somes_all : {A B : Type 0} (of : A → B) (row : List (Option A)) (i : ℕ) (base now : List B) → length row ≤ i → now ≡ base ++ somes of (take i row) → now ≡ base ++ somes of row
somes_all of row i base now h e = e ∙ ap (λ t. base ++ somes of t) (take_all i row h)

-- four after one another
pub four : {A : Type 0} (x a b c d p q r s : List A) → p ≡ x ++ a → q ≡ p ++ b → r ≡ q ++ c → s ≡ r ++ d → s ≡ x ++ (a ++ b ++ c ++ d)
four x a b c d p q r s e f g h =
    h ∙ ap (λ t. t ++ d) (g ∙ ap (λ t. t ++ c) (f ∙ ap (λ t. t ++ b) e ∙ append_assoc x a b) ∙ append_assoc x (a ++ b) c) ∙ append_assoc x ((a ++ b) ++ c) d

-- logs with the same words and the same events
pub same_log : {said said-2 : List (ℕ × ℕ)} {did did-2 : List Event} → said ≡ said-2 → did ≡ did-2 → ◌≡◌ {A = Log} (record { said = said; did = did }) (record { said = said-2; did = did-2 })
same_log e f = λ i. record { said = e i; did = f i }
