-- Choices that are taken are cycles written out; all such are taken; and where a refusal stands.
use Rattle.std.proofs.Common.{◌≡◌, ℕ, zero, suc, ◌+◌, ◌-◌, ◌*◌, ◌/◌, ◌^◌, ◌<◌, ◌≤◌, Bool, true, false, cond, ltb, leb, List, [], ◌∷◌, ◌++◌, length, take, Ok, Err, Result, sym, refl, ap, ◌∙◌, subst, div-lt_iff_lt-mul, zero-add, arith, lit≤, pow_pos, MatchResult}
use Rattle.std.proofs.lemmas.List.{length-take-le, length-append, take_at, drop_at}
use Rattle.std.proofs.lemmas.Bool.{leb-false, ltb-false, le-ltb, lt-leb, eqb-true, not-false}
use Rattle.image.specs.Refusals.{number, place, then}
use Rattle.image.specs.Choices.{Cycle, cycles_from, cycles_of, beyond, places, reading, read, ended, scan, choices_of, counted}
use Rattle.image.specs.ChoiceLaws.{written_out, Rising, Proper, Unfinished, AllWrittenChoicesAreTaken, OnlyWrittenChoicesAreTaken, FaultIsFirst}
use Rattle.image.specs.declared.choices.Expected.{Expected}
use Rattle.image.specs.declared.choices.Expected.TheVariants.{Raised, Count, Place}
use Rattle.image.specs.declared.choices.Reader.{Reader}
use Rattle.image.specs.declared.refusal.ChoiceFault.TheVariants.{CutShort}
use Rattle.image.specs.declared.refusal.Refusal.{Refusal}
use Rattle.image.specs.declared.refusal.Refusal.TheVariants.{Choices}
use Rattle.image.proofs.Bits.{not_beyond}
use Rattle.image.proofs.Cycles.{whole, skipped}

-- a test that refuses was not met
passes : {A B : Type 0} (t : Bool) (e : Refusal) (r : Result A Refusal) (f : A → Result B Refusal) (n : B) → then (cond t (Err e) r) f ≡ Ok n → (t ≡ false) × (then r f ≡ Ok n)
passes true e r f n h = let z : ◌≡◌ {A = ℕ} 0 1 = cc in absurd (omega arith)
passes false e r f n h = (refl, h)

within_cores : (cores b : ℕ) → beyond cores b ≡ false → b < 2 ^ cores
within_cores cores b h =
    let z : b / 2 ^ cores ≡ 0 = eqb-true _ _ (not-false _ h) in
    let l : b / 2 ^ cores < 1 = omega arith in
    let m : b < 1 * 2 ^ cores = (div-lt_iff_lt-mul (pow_pos cores)).0 l in
    omega arith

-- what is known of the bytes that are left, of which the first belong to the record that is read
record Rest (cores skip least begun n : ℕ) (bytes : List ℕ) : Type 0 where
  enough : skip ≤ length bytes
  rising : Rising least (take skip bytes)
  all : bytes ≡ take skip bytes ++ written_out (cycles_from skip bytes)
  proper : Proper cores (cycles_from skip bytes)
  count : n ≡ begun + length (cycles_from skip bytes)
  few : n ≤ 4294967296

-- a record's first two bytes are put in front
begin : (cores begun n b c : ℕ) (bytes : List ℕ) → b < 2 ^ cores → Rest cores c 0 (begun + 1) n bytes → Rest cores 0 0 begun n (b ∷ c ∷ bytes)
unfolding written_out cycles_from cycles_of
begin cores begun n b c bytes l r =
    let e : cycles_from 0 (b ∷ c ∷ bytes) ≡ record { raised = b; given = take c bytes } ∷ cycles_from c bytes = whole b c bytes r.enough in
    let k : length (take c bytes) ≡ c = length-take-le c bytes r.enough in
    record {
      enough = omega arith;
      rising = tt;
      all = rw (e, k) (ap (λ (bs : List ℕ). b ∷ c ∷ bs) r.all);
      proper = rw e (l, r.rising, r.proper);
      count = rw e (omega (arith, r.count));
      few = r.few;
    }

-- a place is put in front
place_more : (cores left least begun n p : ℕ) (bytes : List ℕ) → least ≤ p → Rest cores left (p + 1) begun n bytes → Rest cores (suc left) least begun n (p ∷ bytes)
unfolding cycles_from
place_more cores left least begun n p bytes h r =
    record {
      enough = omega (arith, r.enough);
      rising = (h, r.rising);
      all = ap (λ (bs : List ℕ). p ∷ bs) r.all;
      proper = r.proper;
      count = r.count;
      few = r.few;
    }

abbrev Known : ℕ → Expected → ℕ → ℕ → List ℕ → Type 0
Known cores Raised begun n bytes = Rest cores 0 0 begun n bytes
Known cores Count begun n [] = ⊥
Known cores Count begun n (c ∷ bytes) = Rest cores c 0 begun n bytes
Known cores (Place left least) begun n bytes = 0 < left → Rest cores left least begun n bytes

at_places : (cores k least begun n : ℕ) (bytes : List ℕ) → Known cores (places k least) begun n bytes → Rest cores k least begun n bytes
at_places cores zero least begun n bytes h = record { enough = h.enough; rising = tt; all = h.all; proper = h.proper; count = h.count; few = h.few }
at_places cores (suc k) least begun n bytes h = h (omega arith)

sound : (cores : ℕ) (e : Expected) (begun at n : ℕ) (bytes : List ℕ) → begun ≤ 4294967296 → scan cores (reading e begun) at bytes ≡ Ok n → Known cores e begun n bytes
unfolding scan cycles_from written_out
sound cores Raised begun at n [] l h =
    let e : begun ≡ n = cc in
    record { enough = omega arith; rising = tt; all = refl; proper = tt; count = omega arith; few = omega arith }
sound cores Raised begun at n (b ∷ []) l h =
    let p = passes (leb 4294967296 begun) _ _ _ n h in
    let q = passes (beyond cores b) _ _ _ n p.1 in
    let z : ◌≡◌ {A = ℕ} 0 1 = cc q.1 in
    absurd (omega arith)
sound cores Raised begun at n (b ∷ c ∷ bytes) l h =
    let p = passes (leb 4294967296 begun) _ _ _ n h in
    let q = passes (beyond cores b) _ _ _ n p.1 in
    begin cores begun n b c bytes (within_cores cores b q.0) (sound cores Count (begun + 1) (at + 1) n (c ∷ bytes) (omega (arith, leb-false _ _ p.0)) q.1)
sound cores Count begun at n [] l h = let z : ◌≡◌ {A = ℕ} 0 1 = cc in absurd (omega arith)
sound cores Count begun at n (c ∷ bytes) l h = at_places cores c 0 begun n bytes (sound cores (places c 0) begun (at + 1) n bytes l h)
sound cores (Place left least) begun at n [] l h = let z : ◌≡◌ {A = ℕ} 0 1 = cc in absurd (omega arith)
sound cores (Place zero least) begun at n (p ∷ bytes) l h = λ none. absurd (omega arith)
sound cores (Place (suc left) least) begun at n (p ∷ bytes) l h =
    λ some.
    let q = passes (ltb p least) _ _ _ n h in
    let e : suc left - 1 ≡ left = omega arith in
    let k : scan cores (reading (places left (p + 1)) begun) (at + 1) bytes ≡ Ok n = ap (λ j. scan cores (reading (places j (p + 1)) begun) (at + 1) bytes) (sym e) ∙ q.1 in
    place_more cores left least begun n p bytes (ltb-false _ _ q.0) (at_places cores left (p + 1) begun n bytes (sound cores (places left (p + 1)) begun (at + 1) n bytes l k))

start : (cores n : ℕ) (bytes : List ℕ) → scan cores (reading Raised 0) 0 bytes ≡ Ok n → Rest cores 0 0 0 n bytes
start cores n bytes h = sound cores Raised 0 0 n bytes (lit≤ tt) h

-- the pass counts the cycles
same_count : (cores : ℕ) (bytes : List ℕ) (r : Result ℕ Refusal) → scan cores (reading Raised 0) 0 bytes ≡ r → r ≡ then r (λ n. Ok (length (cycles_of bytes)))
unfolding cycles_of
same_count cores bytes (Ok n) h = ap (λ (k : ℕ). Ok k) ((start cores n bytes h).count ∙ zero-add _)
same_count cores bytes (Err e) h = refl

then_then : {A B C : Type 0} (r : Result A Refusal) (f : A → Result B Refusal) (g : B → Result C Refusal) → then (then r f) g ≡ then r (λ a. then (f a) g)
then_then (Ok a) f g = refl
then_then (Err e) f g = refl

pub scan_counts : (cores : ℕ) (bytes : List ℕ) → scan cores (reading Raised 0) 0 bytes ≡ counted (choices_of cores bytes)
unfolding choices_of
scan_counts cores bytes = same_count cores bytes _ refl ∙ sym (then_then (scan cores (reading Raised 0) 0 bytes) _ _)

pub scan_cases : (cores : ℕ) (bytes : List ℕ) (r : Result ℕ Refusal) → r ≡ scan cores (reading Raised 0) 0 bytes →
    MatchResult r (λ n. choices_of cores bytes ≡ Ok (cycles_of bytes)) (λ e. choices_of cores bytes ≡ Err e)
unfolding choices_of
scan_cases cores bytes (Ok n) h = rw (← h)
scan_cases cores bytes (Err e) h = rw (← h)

-- what is taken
at_ok : {A B : Type 0} (r : Result A Refusal) (f : A → B) (b : B) → then r (λ a. Ok (f a)) ≡ Ok b → (a : A) × (r ≡ Ok a) × (f a ≡ b)
at_ok (Ok a) f b h = (a, refl, cc)
at_ok (Err e) f b h = let z : ◌≡◌ {A = ℕ} 0 1 = cc in absurd (omega arith)

pub only_written : OnlyWrittenChoicesAreTaken
unfolding choices_of cycles_of
only_written cores bytes cs h =
    let p = at_ok (scan cores (reading Raised 0) 0 bytes) (λ n. cycles_from 0 bytes) cs h in
    let r = start cores p.0 bytes p.1 in
    let e : cycles_from 0 bytes ≡ cs = p.2 in
    (r.all ∙ ap written_out e, subst (λ (ds : List Cycle). Proper cores ds) e r.proper, rw (← e) (omega (arith, r.count, r.few)))

-- the places of a record are read
given_read : (cores begun at least : ℕ) (given rest : List ℕ) → Rising least given →
    scan cores (reading (places (length given) least) begun) at (given ++ rest) ≡ scan cores (reading Raised begun) (at + length given) rest
unfolding scan
given_read cores begun at least [] rest r = ap (λ j. scan cores (reading Raised begun) j rest) (omega arith)
given_read cores begun at least (p ∷ given) rest r =
    let e : suc (length given) - 1 ≡ length given = omega arith in
    let t : ltb p least ≡ false = le-ltb p least r.0 in
    rw (t, e) (given_read cores begun (at + 1) (p + 1) given rest r.1 ∙ ap (λ j. scan cores (reading Raised begun) j rest) (omega arith))

written_read : (cores begun at : ℕ) (cs : List Cycle) → Proper cores cs → begun + length cs ≤ 4294967296 → scan cores (reading Raised begun) at (written_out cs) ≡ Ok (begun + length cs)
unfolding scan written_out
written_read cores begun at [] h l = ap (λ (k : ℕ). Ok k) (omega arith)
written_read cores begun at (c ∷ cs) h l =
    let t : leb 4294967296 begun ≡ false = lt-leb 4294967296 begun (omega arith) in
    let u : beyond cores c.raised ≡ false = not_beyond cores c.raised h.0 in
    let g = given_read cores (begun + 1) (at + 1 + 1) 0 c.given (written_out cs) h.1 in
    let ih = written_read cores (begun + 1) (at + 1 + 1 + length c.given) cs h.2 (omega arith) in
    rw (t, u) (g ∙ ih ∙ ap (λ (k : ℕ). Ok k) (omega arith))

written_cut : (cs : List Cycle) → cycles_of (written_out cs) ≡ cs
unfolding cycles_of cycles_from written_out
written_cut [] = refl
written_cut (c ∷ cs) =
    let g = c.given in
    let l : length g ≤ length (g ++ written_out cs) = simp length-append (omega arith) in
    let t : take (length g) (g ++ written_out cs) ≡ g = take_at g (written_out cs) (length g) refl in
    let d : cycles_from (length g) (g ++ written_out cs) ≡ cs = skipped (length g) (g ++ written_out cs) ∙ ap cycles_of (drop_at g (written_out cs) (length g) refl) ∙ written_cut cs in
    whole c.raised (length g) (g ++ written_out cs) l ∙ rw (t, d)

pub all_written : AllWrittenChoicesAreTaken
unfolding choices_of
all_written cores cs h l = rw (written_read cores 0 0 cs h (omega arith), written_cut cs)

-- where a refusal stands: what comes before it is only not finished, and what comes after it does not matter
abbrev Open : ℕ → Result ℕ Refusal → Type 0
Open j (Ok n) = Unit {0}
Open j (Err e) = e ≡ Choices CutShort j

record First (cores : ℕ) (s : Reader) (at : ℕ) (bytes : List ℕ) (e : Refusal) : Type 0 where
  k : ℕ
  third : number e ≡ 3
  stands : place e ≡ at + k
  within : k ≤ length bytes
  before : (j : ℕ) → j ≤ k → Open (at + j) (scan cores s at (take j bytes))
  after : (more : List ℕ) → k < length bytes → scan cores s at (take (suc k) bytes ++ more) ≡ Err e

-- nothing is in fault where nothing is read
open_end : (x : Expected) (begun at j : ℕ) → at ≡ j → Open j (ended x begun at)
open_end Raised begun at j e = tt
open_end Count begun at j e = ap (λ (i : ℕ). Choices CutShort i) e
open_end (Place left least) begun at j e = ap (λ (i : ℕ). Choices CutShort i) e

-- a refusal is one of the choices, at this place
abbrev Here : {A : Type 0} → ℕ → Result A Refusal → Type 0
Here at (Ok x) = Unit {0}
Here at (Err e) = (number e ≡ 3) × (place e ≡ at)

choose : {A : Type 0} (P : A → Type 0) (t : Bool) (x y : A) → P x → P y → P (cond t x y)
choose P true x y p q = p
choose P false x y p q = q

-- a byte is refused at its own place
read_here : (cores : ℕ) (x : Expected) (begun at b : ℕ) → Here at (read cores x begun at b)
read_here cores Raised begun at b = choose (Here at) (leb 4294967296 begun) _ _ (refl, refl) (choose (Here at) (beyond cores b) _ _ (refl, refl) tt)
read_here cores Count begun at b = tt
read_here cores (Place left least) begun at b = choose (Here at) (ltb b least) _ _ (refl, refl) tt

ended_here : (x : Expected) (begun at : ℕ) → Here at (ended x begun at)
ended_here Raised begun at = tt
ended_here Count begun at = (refl, refl)
ended_here (Place left least) begun at = (refl, refl)

before_none : (cores : ℕ) (s : Reader) (at : ℕ) (bytes : List ℕ) (j : ℕ) → j ≤ 0 → Open (at + j) (scan cores s at (take j bytes))
unfolding scan
before_none cores s at bytes zero l = open_end s.expected s.begun at (at + 0) (omega arith)
before_none cores s at bytes (suc j) l = absurd (omega arith)

before_more : (cores : ℕ) (s t : Reader) (at b k : ℕ) (bytes : List ℕ) → read cores s.expected s.begun at b ≡ Ok t →
    ((j : ℕ) → j ≤ k → Open (at + 1 + j) (scan cores t (at + 1) (take j bytes))) → (j : ℕ) → j ≤ suc k → Open (at + j) (scan cores s at (take j (b ∷ bytes)))
unfolding scan
before_more cores s t at b k bytes is h zero l = open_end s.expected s.begun at (at + 0) (omega arith)
before_more cores s t at b k bytes is h (suc j) l =
    let e : at + suc j ≡ at + 1 + j = omega arith in
    rw (is, e) (h j (omega arith))

first_step : (cores : ℕ) (s : Reader) (at b : ℕ) (bytes : List ℕ) (e : Refusal) (r : Result Reader Refusal) → read cores s.expected s.begun at b ≡ r →
    ((t : Reader) → scan cores t (at + 1) bytes ≡ Err e → First cores t (at + 1) bytes e) → then r (λ t. scan cores t (at + 1) bytes) ≡ Err e → First cores s at (b ∷ bytes) e
unfolding scan
first_step cores s at b bytes e (Ok t) is ih h =
    let f = ih t h in
    record {
      k = suc f.k;
      third = f.third;
      stands = omega (arith, f.stands);
      within = omega (arith, f.within);
      before = before_more cores s t at b f.k bytes is f.before;
      after = λ more l. rw is (f.after more (omega arith));
    }
first_step cores s at b bytes e (Err d) is ih h =
    let same : d ≡ e = cc in
    let p : Here {A = Reader} at (Err e) = subst (Here at) (is ∙ ap (λ (x : Refusal). Err x) same) (read_here cores s.expected s.begun at b) in
    record {
      k = 0;
      third = p.0;
      stands = p.1 ∙ omega arith;
      within = omega arith;
      before = before_none cores s at (b ∷ bytes);
      after = λ more l. rw is (ap (λ (x : Refusal). Err x) same);
    }

first : (cores : ℕ) (s : Reader) (at : ℕ) (bytes : List ℕ) (e : Refusal) → scan cores s at bytes ≡ Err e → First cores s at bytes e
unfolding scan
first cores s at [] e h =
    let p : Here {A = ℕ} at (Err e) = subst (Here at) h (ended_here s.expected s.begun at) in
    record { k = 0; third = p.0; stands = p.1 ∙ omega arith; within = omega arith; before = before_none cores s at []; after = λ more l. absurd (omega arith) }
first cores s at (b ∷ bytes) e h = first_step cores s at b bytes e _ refl (λ t g. first cores t (at + 1) bytes e g) h

at_err : {A B : Type 0} (r : Result A Refusal) (f : A → B) (e : Refusal) → then r (λ a. Ok (f a)) ≡ Err e → r ≡ Err e
at_err (Ok a) f e h = let z : ◌≡◌ {A = ℕ} 0 1 = cc in absurd (omega arith)
at_err (Err d) f e h = ap (λ (x : Refusal). Err x) (let same : d ≡ e = cc in same)

unfinished : (cs : List Cycle) (j : ℕ) (r : Result ℕ Refusal) → Open j r → Unfinished j (then r (λ n. Ok cs))
unfinished cs j (Ok n) h = tt
unfinished cs j (Err e) h = h

pub first_fault : FaultIsFirst
unfolding choices_of
first_fault cores bytes e h =
    let f = first cores (reading Raised 0) 0 bytes e (at_err (scan cores (reading Raised 0) 0 bytes) (λ n. cycles_of bytes) e h) in
    let k : place e ≡ f.k = f.stands ∙ zero-add _ in
    let m : place e + 1 ≡ suc f.k = omega (arith, k) in (
      f.third,
      omega (arith, k, f.within),
      λ j l. unfinished _ j _ (subst (λ (i : ℕ). Open i (scan cores (reading Raised 0) 0 (take j bytes))) (zero-add j) (f.before j (omega (arith, k)))),
      λ more l. rw m (ap (λ (r : Result ℕ Refusal). then r (λ n. Ok (cycles_of (take (suc f.k) bytes ++ more)))) (f.after more (omega (arith, k)))),
    )
