-- A layout without faults is what the statements say.
use Rattle.std.proofs.Common.{◌≡◌, ℕ, zero, suc, ◌+◌, ◌%◌, ◌<◌, ◌≤◌, List, [], ◌∷◌, ◌++◌, length, get_or, replicate, Ok, Option, sym, refl, ap, ◌∙◌, arith}
use Rattle.std.proofs.lemmas.List.{length-replicate}
use Rattle.rv32.specs.Decode.{decode}
use Rattle.rv32.specs.declared.instruction.Instruction.{Instruction}
use Rattle.encode.specs.Encode.{encode}
use Rattle.encode.specs.declared.order.Order.{Order}
use Rattle.layout.specs.Laws.{bytes_at, Labels, Laid_out, Meets, place, word_at}
use Rattle.layout.specs.Layout.{end, faults_from, faults_of, laid, laid_from, marked, next, outcome, values_from, values_of, with_operand, word_bytes}
use Rattle.layout.specs.declared.statement.Operand.{Operand}
use Rattle.layout.specs.declared.statement.Statement.{Statement}
use Rattle.layout.specs.declared.statement.Statement.TheVariants.{Code}
use Rattle.layout.proofs.Fetched.{code_fine, marked_decodes, word_of_bytes}
use Rattle.layout.proofs.Labels.{values_label}
use Rattle.layout.proofs.Laid.{laid_fine, laid_length, laid_other, laid_there}
use Rattle.layout.proofs.Places.{end_append, end_inside, end_up, next_inside, room}

zeros : (n k : ℕ) → get_or {A = ℕ} (replicate n 0) k 0 ≡ 0
zeros zero k = refl
zeros (suc n) zero = refl
zeros (suc n) (suc k) = zeros n k

apart : (size : ℕ) (values : List ℕ) (before between : List Statement) (s : Statement) → place size before + length (bytes_at size values before s) ≤ place size (before ++ s ∷ between)
unfolding end
apart size values before between s =
    let e : place size (before ++ s ∷ between) ≡ end size (next size (place size before) s) between = end_append size 0 before (s ∷ between) in
    omega (arith, room size (place size before) values s, end_up size (next size (place size before) s) between)

fine : (size : ℕ) (values : List ℕ) (statements before after : List Statement) (s : Statement) → faults_from size values 0 0 statements ≡ [] → statements ≡ before ++ s ∷ after →
    outcome size values (place size before) s ≡ Ok (bytes_at size values before s)
fine size values statements before after s none e = laid_fine size values 0 0 before after s (ap (λ (ss : List Statement). faults_from size values 0 0 ss) (sym e) ∙ none)

there : (size : ℕ) (values : List ℕ) (statements before after : List Statement) (s : Statement) (j : ℕ) → statements ≡ before ++ s ∷ after → j < length (bytes_at size values before s) →
    get_or (laid_from size values 0 statements (replicate size 0)) (place size before + j) 0 ≡ get_or (bytes_at size values before s) j 0
there size values statements before after s j e h =
    ap (λ (ss : List Statement). get_or (laid_from size values 0 ss (replicate size 0)) (place size before + j) 0) e
    ∙ laid_there size values 0 j before after s (replicate size 0) (omega arith) (length-replicate size 0) h

fetched : (size : ℕ) (values : List ℕ) (statements before after : List Statement) (i : Instruction) (order : Order) (operand : Option Operand) →
    faults_from size values 0 0 statements ≡ [] → statements ≡ before ++ Code i order operand ∷ after →
    (place size before % 4 ≡ 0) × (decode (word_at (laid_from size values 0 statements (replicate size 0)) (place size before)) ≡ with_operand values (place size before) i operand)
fetched size values statements before after i order operand none e =
    let at = place size before in
    let s = Code i order operand in
    let memory = laid_from size values 0 statements (replicate size 0) in
    let word = marked (with_operand values at i operand) order (encode (with_operand values at i operand)) in
    let code = code_fine size at values i order operand (bytes_at size values before s) (fine size values statements before after s none e) in
    let long : length (bytes_at size values before s) ≡ 4 = ap length code.2 in
    let byte : (j : ℕ) → j < 4 → get_or memory (at + j) 0 ≡ get_or (word_bytes word) j 0 =
    λ j h. there size values statements before after s j e (omega arith) ∙ ap (λ (bs : List ℕ). get_or bs j 0) code.2 in
    let good = marked_decodes (with_operand values at i operand) order code.1 in
    let e0 : at + 0 ≡ at = omega arith in
    let same : word_at memory at ≡ word = word_of_bytes word _ _ _ _ good.0 (rw e0 at (byte 0 (omega arith))) (byte 1 (omega arith)) (byte 2 (omega arith)) (byte 3 (omega arith)) in
    (code.0, ap decode same ∙ good.1)

meets : (size : ℕ) (values : List ℕ) (statements : List Statement) → faults_from size values 0 0 statements ≡ [] → Meets size values statements (laid_from size values 0 statements (replicate size 0))
meets size values statements none =
    let long : length {A = ℕ} (replicate size 0) ≡ size = length-replicate size 0 in
    record {
      long = laid_length size values 0 statements (replicate size 0) ∙ long;
      fine = λ before after s e. fine size values statements before after s none e;
      there = λ before after s j e h. there size values statements before after s j e h;
      inside = λ before after s e. omega (arith, room size (place size before) values s, next_inside size (place size before) s (end_inside size 0 before (omega arith)));
      apart = λ before between after s t e. apart size values before between s;
      fetched = λ before after i order operand e. fetched size values statements before after i order operand none e;
      zero = λ a away. laid_other size values 0 a statements (replicate size 0) away ∙ zeros size a;
    }

labels : (size symbols : ℕ) (statements : List Statement) → Labels size symbols statements
labels size symbols statements before after symbol e h none =
    let long : length {A = ℕ} (replicate symbols 0) ≡ symbols = length-replicate symbols 0 in
    ap (λ (ss : List Statement). get_or (values_from size 0 ss (replicate symbols 0)) symbol 0) e ∙ values_label size 0 symbol before after (replicate symbols 0) (omega arith) none

pub laid_out : (size symbols : ℕ) (statements : List Statement) (memory : List ℕ) → memory ≡ laid size symbols statements → faults_of size symbols statements ≡ [] → Laid_out size symbols statements memory
laid_out size symbols statements memory e none =
    record {
      none = none;
      meets = rw e (meets size (values_of size symbols statements) statements none);
      labels = labels size symbols statements;
    }
