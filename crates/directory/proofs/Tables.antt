-- The directory's tables in lent words, as a new one and beyond their ends; and probes to all cores.
use Rattle.std.proofs.Common.{◌≡◌, ℕ, suc, ◌%◌, ◌<◌, ◌≤◌, Bool, eqb, List, get_or, Some, None, sym, ap, ◌∙◌, ap₂, inl, inr, arith}
use mathlib.Core.Path.{fun_ext}
use Rattle.std.proofs.lemmas.Bool.{cases_lt, le-ltb, cond-false}
use Rattle.cores.specs.Machines.{pick}
use Rattle.cache.specs.Slots.{home}
use Rattle.link.specs.Messages.{Probe, ask, unasked}
use Rattle.link.specs.Words.{flag}
use Rattle.link.proofs.Tables.{table_cleared}
use Rattle.directory.specs.Directory.{held, idle, nobody, question}
use Rattle.cache.specs.Words.{access_in}
use Rattle.directory.specs.Words.{entries_of, entry_in, entry_of, request_in, request_of, requests_of, stage_in}
use Rattle.directory.specs.declared.entry.Entry.TheVariants.{Nobody, Shared, Owned}

-- words that are all 0 are tables in which nobody has a line, or has asked for one
pub nobody_anywhere : (w : List ℕ) → ((i : ℕ) → get_or w i 0 ≡ 0) → entries_of w ≡ (λ p. nobody)
nobody_anywhere w z =
    table_cleared (λ p b. entry_of (entry_in b)) nobody 256 2 w (omega arith) (λ p b e. ap (λ t. entry_of (pick (eqb t 0) Nobody (pick (eqb t 1) (Shared (get_or b 1 0)) (Owned (get_or b 1 0))))) e) z

pub nothing_requested : (w : List ℕ) → ((i : ℕ) → get_or w i 0 ≡ 0) → requests_of w ≡ (λ k. idle)
nothing_requested w z =
    table_cleared (λ k b. request_of k (request_in b)) idle 4 5 w (omega arith)
    (λ k b e. ap (λ t. request_of k (pick (flag t) (Some (record { line = get_or b 1 0; access = access_in (get_or b 2 0); slot = get_or b 3 0 % 64; stage = stage_in (get_or b 4 0) })) None)) e) z

-- nobody is known of beyond the 256 places
pub nobody_beyond : (w : List ℕ) (p : ℕ) → 256 ≤ p → entries_of w p ≡ nobody
nobody_beyond w p h = cond-false _ _ _ (le-ltb p 256 h)

-- so no core beyond the four is asked for anything
pub question_beyond : (w : List ℕ) (a : ℕ) (o : Bool) (j : ℕ) → 4 ≤ j → question (entries_of w) a o j ≡ unasked
question_beyond w a o j h =
    ap₂ (λ x y. pick (held x a) (ask (home j a) a o) (pick (held y a) (ask (suc (home j a)) a o) unasked)) (nobody_beyond w (home j a) (omega arith)) (nobody_beyond w (suc (home j a)) (omega arith))

-- probes to each of the four are probes to all
pub all_asked : (w : List ℕ) (a : ℕ) (o : Bool) (t : ℕ → Probe) → ((j : ℕ) → j < 4 → t j ≡ question (entries_of w) a o j) → ((j : ℕ) → 4 ≤ j → t j ≡ unasked) →
    t ≡ question (entries_of w) a o
all_asked w a o t four beyond =
    fun_ext (λ j. elim (cases_lt j 4) [ inl l ↦ four j l | inr g ↦ beyond j g ∙ sym (question_beyond w a o j g) ])
