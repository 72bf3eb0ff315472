-- The cycles of bytes, one more at a time.
use Rattle.std.proofs.Common.{◌≡◌, ℕ, zero, suc, ◌+◌, ◌-◌, ◌<◌, ◌≤◌, List, [], ◌∷◌, length, get_or, take, drop, Some, None, Option, sym, refl, ap, ◌∙◌, ⊎_elim, arith, MatchOption}
use Rattle.std.proofs.lemmas.List.{drop_more, drop-drop, length-drop}
use Rattle.std.proofs.lemmas.Bool.{lt-ltb, le-ltb, cond-true, cond-false, cases_lt}
use Rattle.image.specs.Choices.{cycles_from, cycles_of, Read, Stands}

-- passing bytes over is dropping them
pub skipped : (k : ℕ) (bytes : List ℕ) → cycles_from k bytes ≡ cycles_of (drop k bytes)
unfolding cycles_from cycles_of
skipped zero bytes = refl
skipped (suc k) [] = refl
skipped (suc k) (b ∷ bytes) = skipped k bytes

short : (bytes : List ℕ) → length bytes < 2 → cycles_of bytes ≡ []
unfolding cycles_from cycles_of
short [] h = refl
short (r ∷ []) h = refl
short (r ∷ n ∷ bytes) h = absurd (omega arith)

pub cycles_short : (bytes : List ℕ) (at : ℕ) → length bytes < at + 2 → cycles_of (drop at bytes) ≡ []
cycles_short bytes at h = short (drop at bytes) (simp length-drop (omega arith))

two : (bytes : List ℕ) (at : ℕ) → at + 2 ≤ length bytes → drop at bytes ≡ get_or bytes at 0 ∷ get_or bytes (at + 1) 0 ∷ drop (at + 2) bytes
two bytes at h =
    let e1 : drop at bytes ≡ get_or bytes at 0 ∷ drop (at + 1) bytes = drop_more bytes at 0 (omega arith) in
    let e2 : drop (at + 1) bytes ≡ get_or bytes (at + 1) 0 ∷ drop (at + 2) bytes = drop_more bytes (at + 1) 0 (omega arith) ∙ ap (λ j. get_or bytes (at + 1) 0 ∷ drop j bytes) (omega arith) in
    cc

cut : (r n : ℕ) (bytes : List ℕ) → length bytes < n → cycles_of (r ∷ n ∷ bytes) ≡ []
unfolding cycles_from cycles_of
cut r n bytes h = cond-true _ _ _ (lt-ltb (length bytes) n h)

pub whole : (r n : ℕ) (bytes : List ℕ) → n ≤ length bytes → cycles_of (r ∷ n ∷ bytes) ≡ record { raised = r; given = take n bytes } ∷ cycles_from n bytes
unfolding cycles_from cycles_of
whole r n bytes h = cond-false _ _ _ (le-ltb (length bytes) n h)

-- the record at a place lacks a byte
pub cycles_cut : (bytes : List ℕ) (at : ℕ) → length bytes < at + 2 + get_or bytes (at + 1) 0 → cycles_of (drop at bytes) ≡ []
cycles_cut bytes at l =
    ⊎_elim (λ (h : length bytes < at + 2). cycles_short bytes at h)
    (λ (h : at + 2 ≤ length bytes). rw (two bytes at h) (cut _ _ _ (simp length-drop (omega arith))))
    (cases_lt (length bytes) (at + 2))

-- it is whole
pub cycles_more : (bytes given : List ℕ) (at raised end : ℕ) → Stands bytes at raised given end → Read bytes at raised given end
cycles_more bytes given at raised end s =
    let h : at + 2 ≤ length bytes = omega (arith, s.last, s.within) in
    let n : end - (at + 2) ≡ get_or bytes (at + 1) 0 = omega (arith, s.last) in
    let w : get_or bytes (at + 1) 0 ≤ length (drop (at + 2) bytes) = simp length-drop (omega (arith, s.last, s.within)) in
    let rest : cycles_from (get_or bytes (at + 1) 0) (drop (at + 2) bytes) ≡ cycles_of (drop end bytes) =
    skipped _ _ ∙ ap cycles_of (drop-drop (get_or bytes (at + 1) 0) (at + 2) bytes) ∙ ap (λ j. cycles_of (drop j bytes)) (sym s.last) in
    record { cycles = rw (two bytes at h, s.part, n, s.first, ← rest) (whole _ _ _ w); later = omega (arith, s.last); within = s.within }

-- a clause on an option made weaker
pub weaker : {A : Type 0} (o : Option A) (P P' : Type 0) (Q Q' : A → Type 0) → MatchOption o P Q → (P → P') → ((x : A) → Q x → Q' x) → MatchOption o P' Q'
weaker None P P' Q Q' h f g = f h
weaker (Some x) P P' Q Q' h f g = g x h
