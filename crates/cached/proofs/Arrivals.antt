-- A cycle begins: which message each core takes is settled for all of them, and lines come for the requests that fetch them.
use Rattle.std.proofs.Common.{◌≡◌, ℕ, ◌+◌, ◌<◌, ◌≤◌, Bool, not, ◌||◌, ltb, List, map, length, get_or, drop, sym, refl, ap, ◌∙◌, inl, inr, add-one, arith}
use mathlib.Core.Path.{fun_ext}
use Rattle.std.proofs.lemmas.List.{drop_all, drop_more}
use Rattle.std.proofs.lemmas.Bool.{cases_eq, cases_lt, eq-eqb, ne_eqb, le-ltb, lt-ltb, cond-true, cond-false}
use Rattle.cores.specs.Machines.{pick}
use Rattle.cores.specs.Ports.{line_of}
use Rattle.cores.specs.Put.{put}
use Rattle.cores.specs.declared.port.Line.{Line}
use Rattle.link.specs.Messages.{is_unasked, is_quiet}
use Rattle.link.proofs.Rows.{unasked_beyond}
use Rattle.words.specs.Parts.{part}
use Rattle.cached.specs.Layout.{state_of, with_dues}
use Rattle.cached.specs.Lines.{deliver_all, deliver_one, delivered}
use Rattle.cached.specs.Puts.{dues}
use Rattle.cached.specs.Rv.{rv}
use Rattle.cached.specs.Soc.{State, with_lines_of}

-- f below n, and g from there on
abbrev pub upto : {A : Type 0} → ℕ → (ℕ → A) → (ℕ → A) → ℕ → A
upto n f g j = pick (ltb j n) (f j) (g j)

pub upto_none : {A : Type 0} (f g : ℕ → A) → upto 0 f g ≡ g
upto_none f g = fun_ext (λ j. cond-false _ _ _ (le-ltb j 0 (omega arith)))

pub upto_more : {A : Type 0} (n : ℕ) (f g : ℕ → A) → put (upto n f g) n (f n) ≡ upto (n + 1) f g
upto_more n f g =
    fun_ext (λ j. elim (cases_eq j n) [
      | inl e ↦ cond-true _ _ _ (eq-eqb j n e) ∙ ap f (sym e) ∙ sym (cond-true _ _ _ (lt-ltb j (n + 1) (omega arith)))
      | inr ne ↦ cond-false _ _ _ (ne_eqb j n ne) ∙ elim (cases_lt j n) [
        | inl l ↦ cond-true _ _ _ (lt-ltb j n l) ∙ sym (cond-true _ _ _ (lt-ltb j (n + 1) (omega arith)))
        | inr m ↦ cond-false _ _ _ (le-ltb j n m) ∙ sym (cond-false _ _ _ (le-ltb j (n + 1) (omega arith)))
      ]
    ])

-- which message the first cores take, and one core more
pub settled_more : (h s t : State rv) (k : ℕ) (b : Bool) → s ≡ with_dues h (upto k (dues h) h.hints.due) → b ≡ dues s k → t ≡ with_dues s (put s.hints.due k b) →
    t ≡ with_dues h (upto (k + 1) (dues h) h.hints.due)
settled_more h s t k b e d f =
    f ∙ ap (λ (v : State rv). with_dues v (put v.hints.due k b)) e
    ∙ ap (λ v. with_dues h (put (upto k (dues h) h.hints.due) k v)) (d ∙ ap (λ (v : State rv). dues v k) e)
    ∙ ap (with_dues h) (upto_more k (dues h) h.hints.due)

-- nothing is asked of a core that is not there, and its grant is due
dues_beyond : (w : List ℕ) (j : ℕ) → 4 ≤ j → (state_of w).hints.due j ≡ dues (state_of w) j
unfolding state_of
dues_beyond w j h = cond-false _ _ _ (le-ltb j 4 h) ∙ sym (ap (λ p. is_unasked p || not (is_quiet ((state_of w).lines.coming j))) (unasked_beyond (part 205 12 w) j h))

pub settled_all : (w : List ℕ) → upto 4 (dues (state_of w)) (state_of w).hints.due ≡ dues (state_of w)
settled_all w =
    fun_ext (λ j. elim (cases_lt j 4) [ inl l ↦ cond-true _ _ _ (lt-ltb j 4 l) | inr m ↦ cond-false _ _ _ (le-ltb j 4 m) ∙ dues_beyond w j m ])

-- a line for the first cores, and for one core more
pub one_none : (h : State rv) (a : ℕ) (w : List ℕ) → h ≡ with_lines_of rv (deliver_one 0 a w h.lines) h
unfolding deliver_one
one_none h a w = refl

pub one_more : (h s t : State rv) (k a : ℕ) (w : List ℕ) → s ≡ with_lines_of rv (deliver_one k a w h.lines) h →
    t ≡ with_lines_of rv (delivered k a w (s.lines.request k) s.lines) s → t ≡ with_lines_of rv (deliver_one (k + 1) a w h.lines) h
unfolding deliver_one
one_more h s t k a w e f = rw add-one (f ∙ ap (λ (v : State rv). with_lines_of rv (delivered k a w (v.lines.request k) v.lines) v) e)

-- these lines come for a state
abbrev pub after_lines : List Line → State rv → State rv
after_lines ls h = with_lines_of rv (deliver_all 4 (map line_of ls) h.lines) h

pub lines_over : (ls : List Line) (n : ℕ) (h : State rv) → length ls ≤ n → after_lines (drop n ls) h ≡ h
unfolding deliver_all
lines_over ls n h l = ap (λ v. after_lines v h) (drop_all n ls l)

pub line_more : (ls : List Line) (n : ℕ) (d : Line) (h s : State rv) → n < length ls →
    s ≡ with_lines_of rv (deliver_one 4 (get_or ls n d).number (get_or ls n d).words h.lines) h → after_lines (drop (n + 1) ls) s ≡ after_lines (drop n ls) h
unfolding deliver_all
line_more ls n d h s l e = ap (after_lines (drop (n + 1) ls)) e ∙ sym (ap (λ v. after_lines v h) (drop_more ls n d l))
