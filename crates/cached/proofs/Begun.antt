-- A new chip: words that are all 0, four new cores, and what they share.
use Rattle.std.proofs.Common.{◌≡◌, ℕ, ◌+◌, ◌*◌, ◌%◌, ◌<◌, ◌≤◌, Bool, true, false, ltb, List, length, get_or, drop, replicate, sym, refl, ap, ◌∙◌, inl, inr, arith, length-take}
use mathlib.Core.Path.{fun_ext}
use Rattle.std.proofs.lemmas.List.{get_or_past, get_or-replicate, length-replicate}
use Rattle.std.proofs.lemmas.Bool.{cases_eq, cases_lt, eq-eqb, le-ltb, lt-ltb, ne_eqb, cond-true, cond-false}
use Rattle.words.specs.Parts.{part}
use Rattle.words.proofs.Parts.{part_word}
use Rattle.rv32.specs.Execute.{start}
use Rattle.rv32.specs.declared.core_state.Core.{Core}
use Rattle.cores.specs.Machines.{pick}
use Rattle.cores.specs.Put.{put}
use Rattle.cache.proofs.Written.{caches_clear}
use Rattle.link.proofs.Rows.{nothing_asked, nothing_granted}
use Rattle.directory.proofs.Tables.{nobody_anywhere, nothing_requested}
use Rattle.cached.specs.Layout.{state_of, sweeps_of, with_cpus, with_dues, with_ons, with_shared}
use Rattle.cached.specs.Rv.{rv}
use Rattle.cached.specs.Soc.{State, fresh}

-- nothing is anywhere, on its way, asked for or known, and the sweep begins at the first slot
abbrev pub Clear : State rv → Type 0
Clear h = (h.lines ≡ (fresh rv 0 0).lines) × (h.hints.probe ≡ (fresh rv 0 0).hints.probe) × (h.hints.sweep ≡ (fresh rv 0 0).hints.sweep)

-- the first k of n cores are new
abbrev pub Begun : ℕ → ℕ → State rv → Type 0
Begun k n h = Clear h × ((j : ℕ) → j < k → (h.cpu j ≡ start j) × (h.on j ≡ ltb j n) × (h.hints.due j ≡ true))

-- a part of words that are all 0
zeros : (w : List ℕ) (m : ℕ) → w ≡ replicate m 0 → (i : ℕ) → get_or w i 0 ≡ 0
zeros w m e i =
    let long : length w ≡ m = ap length e ∙ length-replicate m 0 in
    elim (cases_lt i m) [ inl l ↦ ap (λ t. get_or t i 0) e ∙ get_or-replicate m i 0 0 l | inr g ↦ get_or_past w i 0 (omega arith) ]

clear_part : (w : List ℕ) → ((i : ℕ) → get_or w i 0 ≡ 0) → (a n i : ℕ) → get_or (part a n w) i 0 ≡ 0
unfolding part
clear_part w z a n i =
    elim (cases_lt i n) [
      | inl l ↦ part_word a n w i 0 l ∙ z (a + i)
      | inr g ↦ get_or_past (part a n w) i 0 (let m = length-take n (drop a w) in omega arith)
    ]

swept_first : (w : List ℕ) → ((i : ℕ) → get_or w i 0 ≡ 0) → sweeps_of w ≡ (λ k. 0)
swept_first w z = fun_ext (λ k. ap (λ x. pick (ltb k 4) (x % 64) 0) (z k) ∙ same (ltb k 4))
  where
    same : (b : Bool) → pick b (0 % 64) 0 ≡ 0
    same true = refl
    same false = refl

cleared : (w : List ℕ) (m : ℕ) → w ≡ replicate m 0 → Clear (state_of w)
unfolding state_of
cleared w m e =
    let z : (a n i : ℕ) → get_or (part a n w) i 0 ≡ 0 = clear_part w (zeros w m e) in (
      (λ i. record {
        slot = caches_clear (part 749 2560 w) (λ p l. z 749 2560 (10 * p)) i;
        coming = nothing_granted (part 157 48 w) (z 157 48) i;
        entry = nobody_anywhere (part 237 512 w) (z 237 512) i;
        request = nothing_requested (part 217 20 w) (z 217 20) i;
      }),
      nothing_asked (part 205 12 w) (z 205 12),
      swept_first (part 153 4 w) (z 153 4),
    )

pub none_begun : (w : List ℕ) (m n : ℕ) → w ≡ replicate m 0 → Begun 0 n (state_of w)
none_begun w m n e = (cleared w m e, λ j l. absurd (omega arith))

-- one core more
pub begun_more : (h h' h'' h''' : State rv) (k n : ℕ) (c : Core) → h' ≡ with_cpus h (put h.cpu k c) → c ≡ start k → h'' ≡ with_ons h' (put h'.on k (ltb k n)) →
    h''' ≡ with_dues h'' (put h''.hints.due k true) → Begun k n h → Begun (k + 1) n h'''
begun_more h h' h'' h''' k n c p q r t (clear, before) = (
  (
    ap (λ (s : State rv). s.lines) t ∙ ap (λ (s : State rv). s.lines) r ∙ ap (λ (s : State rv). s.lines) p ∙ clear.0,
    ap (λ (s : State rv). s.hints.probe) t ∙ ap (λ (s : State rv). s.hints.probe) r ∙ ap (λ (s : State rv). s.hints.probe) p ∙ clear.1,
    ap (λ (s : State rv). s.hints.sweep) t ∙ ap (λ (s : State rv). s.hints.sweep) r ∙ ap (λ (s : State rv). s.hints.sweep) p ∙ clear.2,
  ),
  more,
)
  where
    more : (j : ℕ) → j < k + 1 → (h'''.cpu j ≡ start j) × (h'''.on j ≡ ltb j n) × (h'''.hints.due j ≡ true)
    more j l =
        let cpu : h'''.cpu j ≡ put h.cpu k c j = ap (λ (s : State rv). s.cpu j) t ∙ ap (λ (s : State rv). s.cpu j) r ∙ ap (λ (s : State rv). s.cpu j) p in
        let on : h'''.on j ≡ put h.on k (ltb k n) j =
        ap (λ (s : State rv). s.on j) t ∙ ap (λ (s : State rv). s.on j) r ∙ ap (λ (s : State rv). put s.on k (ltb k n) j) p in
        let due : h'''.hints.due j ≡ put h.hints.due k true j =
        ap (λ (s : State rv). s.hints.due j) t ∙ ap (λ (s : State rv). put s.hints.due k true j) r ∙ ap (λ (s : State rv). put s.hints.due k true j) p in
        elim (cases_eq j k) [
          | inl e ↦ (
            cpu ∙ cond-true _ _ _ (eq-eqb j k e) ∙ q ∙ ap start (sym e),
            on ∙ cond-true _ _ _ (eq-eqb j k e) ∙ ap (λ m. ltb m n) (sym e),
            due ∙ cond-true _ _ _ (eq-eqb j k e),
          )
          | inr ne ↦ (
            cpu ∙ cond-false _ _ _ (ne_eqb j k ne) ∙ (before j (omega arith)).0,
            on ∙ cond-false _ _ _ (ne_eqb j k ne) ∙ (before j (omega arith)).1,
            due ∙ cond-false _ _ _ (ne_eqb j k ne) ∙ (before j (omega arith)).2,
          )
        ]

-- beyond the fourth none is there
cpu_begun : (w : List ℕ) → ((j : ℕ) → j < 4 → (state_of w).cpu j ≡ start j) → (state_of w).cpu ≡ (λ j. pick (ltb j 4) (start j) (start 0))
unfolding state_of
cpu_begun w h =
    fun_ext (λ j. elim (cases_lt j 4) [ inl l ↦ h j l ∙ sym (cond-true (ltb j 4) (start j) (start 0) (lt-ltb j 4 l)) | inr g ↦ rw (le-ltb j 4 g) refl ])

on_begun : (w : List ℕ) (n : ℕ) → n ≤ 4 → ((j : ℕ) → j < 4 → (state_of w).on j ≡ ltb j n) → (state_of w).on ≡ (λ j. ltb j n)
unfolding state_of
on_begun w n m h =
    fun_ext (λ j. elim (cases_lt j 4) [ inl l ↦ h j l | inr g ↦ rw (le-ltb j 4 g, le-ltb j n (omega arith)) refl ])

due_begun : (w : List ℕ) → ((j : ℕ) → j < 4 → (state_of w).hints.due j ≡ true) → (state_of w).hints.due ≡ (λ j. true)
unfolding state_of
due_begun w h = fun_ext (λ j. elim (cases_lt j 4) [ inl l ↦ h j l | inr g ↦ rw (le-ltb j 4 g) refl ])

pub begun : (w : List ℕ) (n lines : ℕ) → n ≤ 4 → Begun 4 n (state_of w) →
    with_shared (state_of w) (record { count = n; size = lines; lead = 0; turn = 0; way = false }) ≡ fresh rv n lines
begun w n lines m (clear, four) =
    λ i. record {
      count = n;
      size = lines;
      cpu = cpu_begun w (λ j l. (four j l).0) i;
      on = on_begun w n m (λ j l. (four j l).1) i;
      lines = clear.0 i;
      hints = record { probe = clear.1 i; due = due_begun w (λ j l. (four j l).2) i; lead = 0; turn = 0; way = false; sweep = clear.2 i };
    }
