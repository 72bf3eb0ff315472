-- One event more of a row.
use Rattle.std.proofs.Common.{◌≡◌, ℕ, ◌+◌, ◌<◌, ◌≤◌, List, [], ◌∷◌, ◌++◌, map, length, get_or, take, sym, refl, ap, ◌∙◌, subst, append_assoc}
use Rattle.std.proofs.lemmas.List.{append-nil, take_more, take_all, map-append}
use Rattle.cores.proofs.Machines.{events_append}
use Rattle.cores.specs.Machines.{Event, Manual, event, events}
use Rattle.cores.specs.Rv32.{rv32}
use Rattle.reference.specs.Read.{AllPerformed, Performed, all_spoken, manual_of, outcome, outcomes, spoken}
use Rattle.reference.specs.declared.machines.Machines.{Machines}
use Rattle.reference.specs.declared.machines.Outcome.{Outcome}

outcomes_more : (μ : Manual rv32) (es : List Event) (e : Event) → outcomes μ (es ++ e ∷ []) ≡ outcomes μ es ++ outcome (events rv32 μ es) e ∷ []
unfolding outcomes events
outcomes_more μ [] e = refl
outcomes_more μ (x ∷ es) e = ap (λ r. outcome μ x ∷ r) (outcomes_more (event rv32 μ x) es e)

spoken_more : (os : List Outcome) (o : Outcome) → all_spoken (os ++ o ∷ []) ≡ all_spoken os ++ spoken o
unfolding all_spoken
spoken_more [] o = append-nil (spoken o)
spoken_more (x ∷ os) o = ap (λ r. spoken x ++ r) (spoken_more os o) ∙ sym (append_assoc (spoken x) (all_spoken os) (spoken o))

pub performed_none : (ms : Machines) (words : List ℕ) (os : List Outcome) → AllPerformed [] ms words os ms words os
unfolding outcomes all_spoken events
performed_none ms words os said = (sym (append-nil os), ap (manual_of ms words) (append-nil said))

pub performed_more : (es : List Event) (e : Event) (ms : Machines) (words : List ℕ) (os : List Outcome) (ms' : Machines) (words' : List ℕ) (os' : List Outcome) (ms'' : Machines) (words'' : List ℕ) (o : Outcome) →
    AllPerformed es ms words os ms' words' os' → Performed e ms' words' ms'' words'' o → AllPerformed (es ++ e ∷ []) ms words os ms'' words'' (os' ++ o ∷ [])
unfolding events
performed_more es e ms words os ms' words' os' ms'' words'' o all one said =
    let μ : Manual rv32 = manual_of ms words said in
    let a = all said in
    let b = one (said ++ all_spoken (outcomes μ es)) in
    let is : o ≡ outcome (events rv32 μ es) e = b.0 ∙ ap (λ ν. outcome ν e) a.1 in (
      ap (λ r. r ++ o ∷ []) a.0
          ∙ append_assoc os (outcomes μ es) (o ∷ [])
          ∙ ap (λ x. os ++ (outcomes μ es ++ x ∷ [])) is
          ∙ ap (λ r. os ++ r) (sym (outcomes_more μ es e)),
      ap (λ r. manual_of ms'' words'' (said ++ all_spoken r)) (outcomes_more μ es e ∙ ap (λ x. outcomes μ es ++ x ∷ []) (sym is))
          ∙ ap (λ r. manual_of ms'' words'' (said ++ r)) (spoken_more (outcomes μ es) o)
          ∙ ap (manual_of ms'' words'') (sym (append_assoc said (all_spoken (outcomes μ es)) (spoken o)))
          ∙ b.1
          ∙ ap (λ ν. event rv32 ν e) a.1
          ∙ sym (events_append rv32 μ es (e ∷ [])),
    )

-- the first events of a row, read by `of`
front_more : {A : Type 0} (of : A → Event) (l : List A) (i : ℕ) (d : A) → i < length l → map of (take (i + 1) l) ≡ map of (take i l) ++ of (get_or l i d) ∷ []
front_more of l i d h = ap (map of) (take_more l i d h) ∙ map-append of (take i l) (get_or l i d ∷ [])

-- one event more of a row that is read by `of`
pub performed_next : {A : Type 0} (of : A → Event) (l : List A) (i : ℕ) (d : A) (ms : Machines) (words : List ℕ) (os : List Outcome) (ms' : Machines) (words' : List ℕ) (os' : List Outcome) (ms'' : Machines) (words'' : List ℕ) (o : Outcome) (os'' : List Outcome) →
    i < length l → AllPerformed (map of (take i l)) ms words os ms' words' os' → Performed (of (get_or l i d)) ms' words' ms'' words'' o → os'' ≡ os' ++ o ∷ [] → AllPerformed (map of (take (i + 1) l)) ms words os ms'' words'' os''
performed_next of l i d ms words os ms' words' os' ms'' words'' o os'' h all one e =
    subst (λ es. AllPerformed es ms words os ms'' words'' os'') (sym (front_more of l i d h))
    (subst (AllPerformed (map of (take i l) ++ of (get_or l i d) ∷ []) ms words os ms'' words'') (sym e) (performed_more (map of (take i l)) (of (get_or l i d)) ms words os ms' words' os' ms'' words'' o all one))

-- and all of it
pub performed_all : {A : Type 0} (of : A → Event) (l : List A) (i : ℕ) (ms : Machines) (words : List ℕ) (os os₀ : List Outcome) (ms' : Machines) (words' : List ℕ) (os' : List Outcome) →
    length l ≤ i → os ≡ os₀ → AllPerformed (map of (take i l)) ms words os ms' words' os' → AllPerformed (map of l) ms words os₀ ms' words' os'
performed_all of l i ms words os os₀ ms' words' os' h e all =
    subst (λ xs. AllPerformed (map of xs) ms words os₀ ms' words' os') (take_all i l h) (subst (λ xs. AllPerformed (map of (take i l)) ms words xs ms' words' os') e all)
