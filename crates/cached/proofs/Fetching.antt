-- The lines that are waited for are those of the requests that fetch.
use Rattle.std.proofs.Common.{◌≡◌, ℕ, zero, suc, ◌+◌, ◌/◌, ◌<◌, ◌≤◌, Bool, true, false, eqb, ltb, List, [], ◌∷◌, ◌++◌, length, get_or, sym, refl, ◌∙◌, subst, append_assoc, arith, length-append}
use Rattle.cores.specs.Board.{among, handed, kept}
use Rattle.cores.specs.Machines.{pick}
use Rattle.cores.specs.Promise.{once}
use Rattle.cores.specs.Put.{put}
use Rattle.cores.proofs.Basics.{by_test, choose, append_nil}
use Rattle.cached.specs.Soc.{State, start_next}
use Rattle.cached.specs.Coherent.{Fair, Safe, Tidy}
use Rattle.directory.specs.Directory.{Request, fetching, idle, probing, queued, wants, busy, fetches, Entry}
use Rattle.cached.specs.Kind.{Kind}
use Rattle.cached.specs.Lines.{Lines, deliver_one, delivered, deliver_all}
use Rattle.link.specs.Messages.{Grant}
use Rattle.cache.specs.Slots.{Found, found, missing}
use Rattle.cached.proofs.Steps.{deliver_one_safe}
use Rattle.cached.proofs.Base.{less_four}
use Rattle.cached.proofs.Cases.{start_cases}
use Rattle.cached.proofs.Lists.{at_line}

-- what a request fetches
abbrev pub fetch : Request → Found
fetch idle = missing
fetch (wants a o p queued) = missing
fetch (wants a o p probing) = missing
fetch (wants a o p fetching) = found a

abbrev pub is : Found → ℕ → ℕ
is missing a = 0
is (found b) a = pick (eqb a b) 1 0

abbrev pub some : Found → ℕ
some missing = 0
some (found b) = 1

abbrev pub tot : (ℕ → ℕ) → ℕ
tot f = f 0 + f 1 + f 2 + f 3

pub record Waits (f : ℕ → Found) (w : List ℕ) : Type 0 where
  pub waits : (a : ℕ) → once a w ≡ tot (λ k. is (f k) a)
  pub long : length w ≡ tot (λ k. some (f k))

once_append : (a : ℕ) (xs ys : List ℕ) → once a (xs ++ ys) ≡ once a xs + once a ys
unfolding once
once_append a [] ys = omega arith
once_append a (x ∷ xs) ys = let ih = once_append a xs ys in grind arith

once_one : (a b : ℕ) → once a (b ∷ []) ≡ pick (eqb a b) 1 0
unfolding once
once_one a b = refl

-- one more is fetched
more_some : (f : ℕ → Found) (k a : ℕ) → k < 4 → f k ≡ missing → tot (λ j. some (put f k (found a) j)) ≡ tot (λ j. some (f j)) + 1
more_some f k a l e = grind arith

more_is : (f : ℕ → Found) (k a b : ℕ) → k < 4 → f k ≡ missing → tot (λ j. is (put f k (found a) j) b) ≡ tot (λ j. is (f j) b) + pick (eqb b a) 1 0
more_is f k a b l e = grind arith

pub more : (f : ℕ → Found) (w : List ℕ) (k a : ℕ) → k < 4 → f k ≡ missing → Waits f w → Waits (put f k (found a)) (w ++ a ∷ [])
more f w k a l e h = record {
  waits = λ b. once_append b w (a ∷ []) ∙ rw (once_one b a, h.waits b) (sym (more_is f k a b l e));
  long = length-append w (a ∷ []) ∙ rw h.long (sym (more_some f k a l e));
}

-- at most one of four
pub few : (f : ℕ → Found) (w : List ℕ) → Waits f w → length w ≤ 4
few f w h = rw h.long (grind arith)

-- no step but the start of a request, and a line that comes, changes what is fetched
keep : (r : ℕ → Request) (j : ℕ) (x : Request) (k : ℕ) → fetch x ≡ missing → fetch (r j) ≡ missing → fetch (put r j x k) ≡ fetch (r k)
keep r j x k e f = grind arith

-- line a has come
abbrev pub dropped : ℕ → Found → Found
dropped a missing = missing
dropped a (found b) = pick (eqb b a) missing (found b)

drop_some : (a : ℕ) (x : Found) → some (dropped a x) + is x a ≡ some x
drop_some a x = grind arith

drop_is : (a b : ℕ) (x : Found) → is (dropped a x) b ≡ pick (eqb b a) 0 (is x b)
drop_is a b x = grind arith

is_small : (x : Found) (a : ℕ) → is x a ≤ 1
is_small x a = grind arith

at_most_one : (x y z w : ℕ) → x ≤ 1 → y ≤ 1 → z ≤ 1 → w ≤ 1 → (x ≡ 1 → y ≡ 1 → ⊥) → (x ≡ 1 → z ≡ 1 → ⊥) → (x ≡ 1 → w ≡ 1 → ⊥) → (y ≡ 1 → z ≡ 1 → ⊥) → (y ≡ 1 → w ≡ 1 → ⊥) → (z ≡ 1 → w ≡ 1 → ⊥) → x + y + z + w ≤ 1
at_most_one x y z w a b c d e f g h i j = grind arith

alone_tot : (f : ℕ → Found) (a : ℕ) → ((i j : ℕ) → is (f i) a ≡ 1 → is (f j) a ≡ 1 → i ≡ j) → tot (λ k. is (f k) a) ≤ 1
alone_tot f a h = at_most_one (is (f 0) a) (is (f 1) a) (is (f 2) a) (is (f 3) a) (is_small (f 0) a) (is_small (f 1) a) (is_small (f 2) a) (is_small (f 3) a)
    (λ u v. let e = h 0 1 u v in omega arith) (λ u v. let e = h 0 2 u v in omega arith) (λ u v. let e = h 0 3 u v in omega arith) (λ u v. let e = h 1 2 u v in omega arith) (λ u v. let e = h 1 3 u v in omega arith) (λ u v. let e = h 2 3 u v in omega arith)

once_cons : (a b : ℕ) (w : List ℕ) → once a (b ∷ w) ≡ pick (eqb a b) 1 0 + once a w
unfolding once
once_cons a b w = grind arith

drop_tot : (f : ℕ → Found) (a b : ℕ) → tot (λ k. is (dropped a (f k)) b) ≡ pick (eqb b a) 0 (tot (λ k. is (f k) b))
drop_tot f a b = rw (drop_is a b (f 0), drop_is a b (f 1), drop_is a b (f 2), drop_is a b (f 3)) (grind arith)

less_waits : (a b o t s : ℕ) → pick (eqb b a) 1 0 + o ≡ t → t ≤ 1 → s ≡ pick (eqb b a) 0 t → o ≡ s
less_waits a b o t s e l i = grind arith

same_once : (a o t : ℕ) → pick (eqb a a) 1 0 + o ≡ t → t ≤ 1 → t ≡ 1
same_once a o t e l = grind arith

pub fewer : (f : ℕ → Found) (a : ℕ) (w : List ℕ) → ((b i j : ℕ) → is (f i) b ≡ 1 → is (f j) b ≡ 1 → i ≡ j) → Waits f (a ∷ w) → Waits (λ k. dropped a (f k)) w
fewer f a w alone h = record {
  waits = λ b. less_waits a b (once b w) (tot (λ k. is (f k) b)) (tot (λ k. is (dropped a (f k)) b)) (sym (once_cons b a w) ∙ h.waits b) (alone_tot f b (alone b)) (drop_tot f a b);
  long = let t : tot (λ k. is (f k) a) ≡ 1 = same_once a (once a w) (tot (λ k. is (f k) a)) (sym (once_cons a a w) ∙ h.waits a) (alone_tot f a (alone a)) in
      let l : suc (length w) ≡ tot (λ k. some (f k)) = h.long in omega (arith, drop_some a (f 0), drop_some a (f 1), drop_some a (f 2), drop_some a (f 3));
}

-- what a line that comes does to the requests
delivered_fetch : (k a : ℕ) (w : List ℕ) (l : Lines) (r : Request) (j : ℕ) → l.request k ≡ r → fetch ((delivered k a w r l).request j) ≡ pick (eqb j k) (dropped a (fetch (l.request j))) (fetch (l.request j))
delivered_fetch k a w l idle j e = grind arith
delivered_fetch k a w l (wants b o p queued) j e = grind arith
delivered_fetch k a w l (wants b o p probing) j e = grind arith
delivered_fetch k a w l (wants b o p fetching) j e = grind arith

deliver_step : (n j : ℕ) (x y z : Found) (a : ℕ) → x ≡ pick (eqb j n) (dropped a y) y → y ≡ pick (ltb j n) (dropped a z) z → x ≡ pick (ltb j (suc n)) (dropped a z) z
deliver_step n j x y z a e f = grind arith

pub deliver_fetch : (n a : ℕ) (w : List ℕ) (l : Lines) (j : ℕ) → fetch ((deliver_one n a w l).request j) ≡ pick (ltb j n) (dropped a (fetch (l.request j))) (fetch (l.request j))
unfolding deliver_one
deliver_fetch zero a w l j = grind arith
deliver_fetch (suc n) a w l j = deliver_step n j _ _ _ a (delivered_fetch n a w (deliver_one n a w l) ((deliver_one n a w l).request n) j refl) (deliver_fetch n a w l j)

-- the count goes by what each of four cores fetches
pub waits_same : (f g : ℕ → Found) (w : List ℕ) → ((k : ℕ) → k < 4 → g k ≡ f k) → Waits f w → Waits g w
waits_same f g w e h = record {
  waits = λ a. h.waits a ∙ rw (e 0 (omega arith), e 1 (omega arith), e 2 (omega arith), e 3 (omega arith));
  long = h.long ∙ rw (e 0 (omega arith), e 1 (omega arith), e 2 (omega arith), e 3 (omega arith));
}

-- and not by the order of the row
waits_move : (f : ℕ → Found) (a : ℕ) (v w : List ℕ) → Waits f (v ++ a ∷ w) → Waits f (a ∷ (v ++ w))
waits_move f a v w h = record {
  waits = λ b. moved b ∙ h.waits b;
  long = counted ∙ h.long;
}
  where
    moved : (b : ℕ) → once b (a ∷ (v ++ w)) ≡ once b (v ++ a ∷ w)
    moved b = omega (arith, once_cons b a (v ++ w), once_append b v w, once_append b v (a ∷ w), once_cons b a w)

    counted : length (a ∷ (v ++ w)) ≡ length (v ++ a ∷ w)
    counted = omega (arith, length-append v w, length-append v (a ∷ w))

-- what is fetched, by the test
fetch_true : (r : Request) (a : ℕ) → fetch r ≡ found a → fetches r a ≡ true
fetch_true r a e = grind arith

true_fetch : (r : Request) (a : ℕ) → fetches r a ≡ true → fetch r ≡ found a
true_fetch r a e = grind arith

pub fetch_same : (q r : Request) → ((a : ℕ) → fetches r a ≡ fetches q a) → fetch r ≡ fetch q
fetch_same q r h = go (fetch r) (fetch q) refl refl
  where
    unfound : {P : Type 0} (a : ℕ) → missing ≡ found a → P
    unfound a e = let z : ◌≡◌ {A = ℕ} 0 1 = cc in absurd (omega arith)

    go : (x y : Found) → fetch r ≡ x → fetch q ≡ y → x ≡ y
    go (found b) y e i = sym (true_fetch q b (sym (h b) ∙ fetch_true r b e)) ∙ i
    go missing missing e i = refl
    go missing (found a) e i = unfound a (sym e ∙ true_fetch r a (h a ∙ fetch_true q a i))

-- a line that somebody fetches waits
one_of : (f : ℕ → Found) (k a : ℕ) → k < 4 → f k ≡ found a → 1 ≤ tot (λ j. is (f j) a)
one_of f k a l e = grind arith

pub fetched_waits : (r : ℕ → Request) (w : List ℕ) (k a : ℕ) → k < 4 → fetches (r k) a ≡ true → Waits (λ j. fetch (r j)) w → 1 ≤ once a w
fetched_waits r w k a l e h = rw (h.waits a) (one_of (λ j. fetch (r j)) k a l (true_fetch (r k) a e))

-- and one that nobody fetches does not
none_of : (f : ℕ → Found) (a : ℕ) → is (f 0) a ≡ 0 → is (f 1) a ≡ 0 → is (f 2) a ≡ 0 → is (f 3) a ≡ 0 → tot (λ j. is (f j) a) ≡ 0
none_of f a x y z w = omega arith

is_none : (r : Request) (a : ℕ) → fetches r a ≡ false → is (fetch r) a ≡ 0
is_none r a e = grind arith

pub unfetched_waits : (r : ℕ → Request) (w : List ℕ) (a : ℕ) → ((k : ℕ) → fetches (r k) a ≡ false) → Waits (λ j. fetch (r j)) w → once a w ≡ 0
unfetched_waits r w a e h = h.waits a ∙ none_of (λ j. fetch (r j)) a (is_none (r 0) a (e 0)) (is_none (r 1) a (e 1)) (is_none (r 2) a (e 2)) (is_none (r 3) a (e 3))

-- one request at most for a line is under way, so that no line waits twice
is_busy : (r : Request) (a : ℕ) → is (fetch r) a ≡ 1 → busy r a ≡ true
is_busy r a e = grind arith

pub apart : (n : ℕ) (l : Lines) → Tidy n l → (a i j : ℕ) → is (fetch (l.request i)) a ≡ 1 → is (fetch (l.request j)) a ≡ 1 → i ≡ j
apart n l t a i j u v = t.alone i j a (is_busy (l.request i) a u) (is_busy (l.request j) a v)

pub once_each : (n : ℕ) (l : Lines) (w : List ℕ) (a : ℕ) → Tidy n l → Waits (λ j. fetch (l.request j)) w → once a w ≤ 1
once_each n l w a t h = rw (h.waits a) (alone_tot (λ j. fetch (l.request j)) a (apart n l t a))

-- the lines that a board gives wait no longer, and their requests fetch no longer
pub deliver_waits : (n : ℕ) (m : List (List ℕ)) (t : ℕ → List ℕ) (gs : List ℕ) (i : ℕ) (v w : List ℕ) (l : Lines) → Safe n l (at_line m) t →
    Waits (λ k. fetch (l.request k)) (v ++ w) → Waits (λ k. fetch ((deliver_all 4 (handed m gs i w) l).request k)) (v ++ kept gs i w)
unfolding handed kept deliver_all
deliver_waits n m t gs i v [] l s h = h
deliver_waits n m t gs i v (a ∷ w) l s h = by_test {P = Waits (λ k. fetch ((deliver_all 4 (handed m gs i (a ∷ w)) l).request k)) (v ++ kept gs i (a ∷ w))} (among i gs)
    (λ e. rw e (deliver_waits n m t gs (suc i) v w (deliver_one 4 a (get_or m a []) l) (deliver_one_safe n 4 a (get_or m a []) l (at_line m) t refl s)
    (waits_same (λ k. dropped a (fetch (l.request k))) (λ k. fetch ((deliver_one 4 a (get_or m a []) l).request k)) (v ++ w) (gone (get_or m a []))
    (fewer (λ k. fetch (l.request k)) a (v ++ w) (apart n l s.tidy) (waits_move (λ k. fetch (l.request k)) a v w h)))))
    (λ e. rw e (subst (Waits (λ k. fetch ((deliver_all 4 (handed m gs (suc i) w) l).request k))) (append_assoc v (a ∷ []) (kept gs (suc i) w))
    (deliver_waits n m t gs (suc i) (v ++ a ∷ []) w l s (subst (Waits (λ k. fetch (l.request k))) (sym (append_assoc v (a ∷ []) w)) h))))
  where
    gone : (ws : List ℕ) (k : ℕ) → k < 4 → fetch ((deliver_one 4 a ws l).request k) ≡ dropped a (fetch (l.request k))
    gone ws k j = deliver_fetch 4 a ws l k ∙ rw (less_four k j)

module _ (κ : Kind) where
  -- a request's core is one of four
  queued_small : (n : ℕ) (e : ℕ → Entry) (g : ℕ → Grant) (k a p : ℕ) (o : Bool) (q : Request) → q ≡ wants a o p queued → Fair n e g k q → k < 4
  queued_small n e g k a p o idle i f = absurd (unasked i)
    where
      unasked : idle ≡ wants a o p queued → ⊥
      unasked i = let z : ◌≡◌ {A = ℕ} 0 1 = cc in omega arith
  queued_small n e g k a p o (wants b u r s) i f = let z : r / 64 ≡ k = f.mine in let y : r < 256 = f.home.2 in omega arith

  put_fetch : (r : ℕ → Request) (k : ℕ) (x : Request) (j : ℕ) → fetch (put r k x j) ≡ put (λ i. fetch (r i)) k (fetch x) j
  put_fetch r k x j = choose (λ (z : Request). fetch z ≡ put (λ i. fetch (r i)) k (fetch x) j) (eqb j k) x (r j) (λ e. rw e) (λ e. rw e)

  -- a request that is started fetches a line, and it waits; or probes are sent
  pub start_waits : (c : State κ) (w : List ℕ) → Tidy c.size c.lines → Waits (λ k. fetch (c.lines.request k)) w →
      Waits (λ k. fetch ((start_next κ c).0.lines.request k)) (w ++ (start_next κ c).1.asks)
  start_waits c w t h = start_cases κ c (λ d v. Waits (λ k. fetch (d.lines.request k)) (w ++ v)) (record {
    none = λ n. rw (append_nil w) h;
    fetch = λ k a p o e u f first. waits_same _ _ (w ++ a ∷ []) (λ j l. put_fetch c.lines.request k (wants a o p fetching) j)
        (more (λ j. fetch (c.lines.request j)) w k a (queued_small c.size c.lines.entry c.lines.coming k a p o (c.lines.request k) e (t.fair k)) (rw e) h);
    probe = λ k a p o e u f v g first. rw (append_nil w) (waits_same _ _ w (λ j l. keep c.lines.request k (wants a o p probing) j refl (rw e)) h);
  })
