-- Bytes written to memory.
use Rattle.std.proofs.Common.{◌≡◌, ℕ, zero, suc, ◌+◌, ◌-◌, ◌<◌, ◌≤◌, ◌≢◌, ◌⊎◌, List, [], ◌∷◌, ◌++◌, length, get_or, take, drop, set, refl, sym, ap, ◌∙◌, add-one, inl, inr, ⊎_elim, arith}
use Rattle.std.proofs.lemmas.List.{append_assoc, drop-drop, drop-set-lt, get_or-set_other, get_or-set_same, length-set, take-append-drop}
use Rattle.std.proofs.Math.Seq.{take-suc-set}
use borrow.Rule.Slice.PartMut.{put_mid}
use Rattle.layout.specs.Layout.{filler, padding, written}

-- bytes written from an address on are a part written over
pub written_part : (bytes memory : List ℕ) (at k : ℕ) → k ≡ length bytes → at + length bytes ≤ length memory → put_mid at k memory bytes ≡ written at bytes memory
unfolding written
written_part [] memory at k e h = ap (λ (n : ℕ). take at memory ++ drop n (drop at memory)) e ∙ take-append-drop at memory
written_part (b ∷ bytes) memory at k e h =
    let n : ℕ = length bytes in
    let after : List ℕ = set memory at b in
    let tail : List ℕ = drop n (drop (at + 1) after) in
    let lt : at < length memory = omega arith in
    let front : take (at + 1) after ≡ take at memory ++ (b ∷ []) = rw add-one (take-suc-set memory at b lt) in
    let on : at + k ≡ at + 1 + n = omega arith in
    let rest : drop k (drop at memory) ≡ tail
    = drop-drop k at memory ∙ ap (λ (m : ℕ). drop m memory) on ∙ sym (drop-set-lt (at + 1 + n) memory at b (omega arith)) ∙ sym (drop-drop n (at + 1) after) in
    let long = length-set memory at b in
    ap (λ (r : List ℕ). take at memory ++ (b ∷ (bytes ++ r))) rest ∙ sym (append_assoc (take at memory) (b ∷ []) (bytes ++ tail))
    ∙ ap (λ (f : List ℕ). f ++ (bytes ++ tail)) (sym front) ∙ written_part bytes after (at + 1) n refl (omega arith)

pub padding_more : (memory : List ℕ) (at to : ℕ) → at < to →
    written at (padding at (to - at)) memory ≡ written (at + 1) (padding (at + 1) (to - (at + 1))) (set memory at (filler at))
unfolding written padding
padding_more memory at to h = let e : to - at ≡ suc (to - (at + 1)) = omega arith in rw e refl

pub padding_none : (memory : List ℕ) (at to : ℕ) → to ≤ at → written at (padding at (to - at)) memory ≡ memory
unfolding written padding
padding_none memory at to h = let e : to - at ≡ 0 = omega arith in rw e refl

-- memory keeps its length; a byte that is written is there, and every other stays
pub written_length : (bytes memory : List ℕ) (at : ℕ) → length (written at bytes memory) ≡ length memory
unfolding written
written_length [] memory at = refl
written_length (b ∷ bytes) memory at = written_length bytes (set memory at b) (at + 1) ∙ length-set memory at b

pub written_other : (bytes memory : List ℕ) (at k : ℕ) → (k < at) ⊎ (at + length bytes ≤ k) → get_or (written at bytes memory) k 0 ≡ get_or memory k 0
unfolding written
written_other [] memory at k h = refl
written_other (b ∷ bytes) memory at k h =
    let away : (k < at + 1) ⊎ (at + 1 + length bytes ≤ k) = ⊎_elim (λ l. inl (omega arith)) (λ l. inr (omega arith)) h in
    let ne : k ≢ at = ⊎_elim (λ l e. omega arith) (λ l e. omega arith) h in
    written_other bytes (set memory at b) (at + 1) k away ∙ get_or-set_other memory at k b 0 ne

pub written_there : (bytes memory : List ℕ) (at j : ℕ) → j < length bytes → at + length bytes ≤ length memory → get_or (written at bytes memory) (at + j) 0 ≡ get_or bytes j 0
unfolding written
written_there [] memory at j h l = absurd (omega arith)
written_there (b ∷ bytes) memory at zero h l =
    let lt : at < length memory = omega arith in
    let e : at + 0 ≡ at = omega arith in
    rw e (written_other bytes (set memory at b) (at + 1) at (inl (omega arith)) ∙ get_or-set_same memory at b 0 lt)
written_there (b ∷ bytes) memory at (suc j) h l =
    let e : at + suc j ≡ at + 1 + j = omega arith in
    let long = length-set memory at b in
    rw e (written_there bytes (set memory at b) (at + 1) j (omega arith) (omega arith))
