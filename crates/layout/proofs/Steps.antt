-- What is left of the statements, one step on and at the end.
use Rattle.std.proofs.Common.{◌≡◌, ℕ, ◌+◌, ◌<◌, ◌≤◌, List, [], ◌++◌, length, get_or, drop, Option, sym, ap, ◌∙◌}
use Rattle.std.proofs.lemmas.List.{append_assoc, append-nil, at_drop_more, at_drop_all}
use Rattle.std.specs.Result.{result_err}
use Rattle.layout.specs.Layout.{bytes_in, fault_at, faults_from, laid_from, named, next, outcome, values_from, written}
use Rattle.layout.specs.declared.fault.Fault.{Fault}
use Rattle.layout.specs.declared.fault.Located.{Located}
use Rattle.layout.specs.declared.statement.Statement.{Statement}

module _ (size : ℕ) (statements : List Statement) (i here : ℕ) where
  module _ (values : List ℕ) where
    pub values_more : (d : Statement) → i < length statements →
        values_from size here (drop i statements) values ≡ values_from size (next size here (get_or statements i d)) (drop (i + 1) statements) (named here (get_or statements i d) values)
    unfolding values_from
    values_more d h = at_drop_more (λ (ss : List Statement). values_from size here ss values) statements i d h

    pub values_none : length statements ≤ i → values_from size here (drop i statements) values ≡ values
    unfolding values_from
    values_none h = at_drop_all (λ (ss : List Statement). values_from size here ss values) statements i h

    pub laid_more : (memory : List ℕ) (d : Statement) → i < length statements →
        laid_from size values here (drop i statements) memory
        ≡ laid_from size values (next size here (get_or statements i d)) (drop (i + 1) statements) (written here (bytes_in (outcome size values here (get_or statements i d))) memory)
    unfolding laid_from
    laid_more memory d h = at_drop_more (λ (ss : List Statement). laid_from size values here ss memory) statements i d h

    pub laid_none : (memory : List ℕ) → length statements ≤ i → laid_from size values here (drop i statements) memory ≡ memory
    unfolding laid_from
    laid_none memory h = at_drop_all (λ (ss : List Statement). laid_from size values here ss memory) statements i h

    pub faults_more : (d : Statement) → i < length statements →
        faults_from size values i here (drop i statements)
        ≡ fault_at i (result_err (outcome size values here (get_or statements i d))) ++ faults_from size values (i + 1) (next size here (get_or statements i d)) (drop (i + 1) statements)
    unfolding faults_from
    faults_more d h = at_drop_more (faults_from size values i here) statements i d h

    pub faults_none : length statements ≤ i → faults_from size values i here (drop i statements) ≡ []
    unfolding faults_from
    faults_none h = at_drop_all (faults_from size values i here) statements i h

    -- a turn of the loop that writes all: the memory, the faults, and the address that is reached
    pub laid_step : (memory memory' all : List ℕ) (d : Statement) (here' : ℕ) → i < length statements →
        memory' ≡ written here (bytes_in (outcome size values here (get_or statements i d))) memory → here' ≡ next size here (get_or statements i d) →
        laid_from size values here (drop i statements) memory ≡ all → laid_from size values here' (drop (i + 1) statements) memory' ≡ all
    laid_step memory memory' all d here' h m r inv = rw (m, r) (sym (laid_more memory d h) ∙ inv)

    pub faults_step : (items items' all : List Located) (o : Option Fault) (d : Statement) (here' : ℕ) → i < length statements →
        items' ≡ items ++ fault_at i o → o ≡ result_err (outcome size values here (get_or statements i d)) → here' ≡ next size here (get_or statements i d) →
        items ++ faults_from size values i here (drop i statements) ≡ all → items' ++ faults_from size values (i + 1) here' (drop (i + 1) statements) ≡ all
    faults_step items items' all o d here' h p q r inv = rw (p, q, r, append_assoc) (ap (λ (fs : List Located). items ++ fs) (sym (faults_more d h)) ∙ inv)

    pub faults_end : (items all : List Located) → length statements ≤ i → items ++ faults_from size values i here (drop i statements) ≡ all → items ≡ all
    faults_end items all h inv = sym (append-nil items) ∙ ap (λ (fs : List Located). items ++ fs) (sym (faults_none h)) ∙ inv
