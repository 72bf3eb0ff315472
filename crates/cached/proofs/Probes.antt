-- Each move keeps what holds of probes and requests.
use Rattle.std.proofs.Common.{◌≡◌, ℕ, suc, ◌/◌, Bool, true, false, ◌&&◌, ◌⊎◌, sym, refl, ◌∙◌, inl, inr, arith}
use Rattle.cores.specs.Machines.{pick}
use Rattle.cores.specs.Put.{put}
use Rattle.cores.proofs.Basics.{choose}
use Rattle.directory.specs.Directory.{Entry, Request, busy, free, held, nobody, probing, question, tagged, wants}
use Rattle.link.specs.Messages.{Probe, all_unasked, ask, is_unasked, unasked}
use Rattle.cached.specs.Rank.{Asked, Live, is_probing, probes}
use Rattle.cache.specs.Slots.{home}
use Rattle.cached.proofs.Base.{at_put, put_here, clash}

-- a place is handed back by a core that is asked nothing
module _ (e : ℕ → Entry) (r : ℕ → Request) (t : ℕ → Probe) (j q : ℕ) where
  release_asked : (k : ℕ) → is_unasked (t (q / 64)) ≡ true → Asked e (r j) k (t k) → Asked (put e q nobody) (r j) k (t k)
  release_asked k u h = grind arith

  release_all : (p a : ℕ) → (probes (r j) a true ≡ true → held (e p) a ≡ true → t (p / 64) ≡ ask p a true) → probes (r j) a true ≡ true → held (put e q nobody p) a ≡ true → t (p / 64) ≡ ask p a true
  release_all p a h u v = h u (gone p a v)
    where
      gone : (p a : ℕ) → held (put e q nobody p) a ≡ true → held (e p) a ≡ true
      gone p a v = grind arith

  pub release_live : is_unasked (t (q / 64)) ≡ true → Live e r t j → Live (put e q nobody) r t j
  release_live u h = record { one = h.one; asked = λ k. release_asked k u (h.asked k); all = λ p a. release_all p a (h.all p a); some = h.some }

-- a core asks for a line
module _ (e : ℕ → Entry) (r : ℕ → Request) (t : ℕ → Probe) (j k : ℕ) (x : Request) (old : is_probing (r k) ≡ false) (new : is_probing x ≡ false) where
  queue_one : (i : ℕ) → (is_probing (r i) ≡ true → i ≡ j) → is_probing (put r k x i) ≡ true → i ≡ j
  queue_one i h u = grind arith

  queue_probes : (a : ℕ) (o : Bool) → probes (put r k x j) a o ≡ probes (r j) a o
  queue_probes a o = at_put (λ y. probes y a o ≡ probes (r j) a o) r k x j (λ i. rw i (quiet_probes x (r k) a o new old)) (λ i. refl)
    where
      quiet_probes : (x y : Request) (a : ℕ) (o : Bool) → is_probing x ≡ false → is_probing y ≡ false → probes x a o ≡ probes y a o
      quiet_probes x y a o u v = grind arith

  queue_is : is_probing (put r k x j) ≡ is_probing (r j)
  queue_is = grind arith

  queue_asked : (i : ℕ) (y : Probe) → Asked e (r j) i y → Asked e (put r k x j) i y
  queue_asked i unasked h = tt
  queue_asked i (ask p a o) h = (h.0, h.1, queue_probes a o ∙ h.2)

  pub queue_live : Live e r t j → Live e (put r k x) t j
  queue_live h = record {
    one = λ i. queue_one i (h.one i);
    asked = λ i. queue_asked i (t i) (h.asked i);
    all = λ p a u. h.all p a (sym (queue_probes a true) ∙ u);
    some = λ u. h.some (sym queue_is ∙ u);
  }

-- a line comes to a place that has nothing; nobody asks for it
module _ (e : ℕ → Entry) (r : ℕ → Request) (t : ℕ → Probe) (j q a : ℕ) (o : Bool) (free-here : e q ≡ nobody) (other : busy (r j) a ≡ false) where
  come_asked : (k : ℕ) → Asked e (r j) k (t k) → Asked (put e q (tagged a o)) (r j) k (t k)
  come_asked k h = grind arith

  come_held : (p b : ℕ) → probes (r j) b true ≡ true → held (put e q (tagged a o) p) b ≡ true → held (e p) b ≡ true
  come_held p b u v = grind arith

  pub come_live : Live e r t j → Live (put e q (tagged a o)) r t j
  come_live h = record { one = h.one; asked = λ k. come_asked k (h.asked k); all = λ p b u v. h.all p b u (come_held p b u v); some = h.some }

-- a core answers, and others have still to
module _ (e : ℕ → Entry) (r : ℕ → Request) (t : ℕ → Probe) (j k p a : ℕ) (o : Bool) (x : Entry) (said : t k ≡ ask p a o) where
  more_asked : (i : ℕ) → Asked e (r j) k (t k) → Asked e (r j) i (t i) → Asked (put e p x) (r j) i (put t k unasked i)
  more_asked i g h = grind arith

  more_all : (q b : ℕ) → (o ≡ true → x ≡ nobody) → Asked e (r j) k (t k) → (held (e q) b ≡ true → t (q / 64) ≡ ask q b true) → probes (r j) b true ≡ true →
      held (put e p x q) b ≡ true → put t k unasked (q / 64) ≡ ask q b true
  more_all q b n g h u v = grind arith

  pub more_live : (o ≡ true → x ≡ nobody) → all_unasked (put t k unasked) ≡ false → Live e r t j → Live (put e p x) r (put t k unasked) j
  more_live n s h = record { one = h.one; asked = λ i. more_asked i (h.asked k) (h.asked i); all = λ q b u v. more_all q b n (h.asked k) (h.all q b u) u v; some = λ u. s }

-- nobody is asked anything, and no request asks
pub still_live : (e : ℕ → Entry) (r : ℕ → Request) (t : ℕ → Probe) (j : ℕ) → ((k : ℕ) → is_unasked (t k) ≡ true) → ((i : ℕ) → is_probing (r i) ≡ false) → Live e r t j
still_live e r t j u n = record {
  one = λ i h. clash h (n i);
  asked = λ k. unasked_is k (t k) (u k);
  all = λ p a h. absurd (no_probes (r j) a (n j) h);
  some = λ h. clash h (n j);
}
  where
    unasked_is : (k : ℕ) (x : Probe) → is_unasked x ≡ true → Asked e (r j) k x
    unasked_is k unasked h = tt
    unasked_is k (ask p a o) h = clash h refl

    no_probes : (q : Request) (a : ℕ) → is_probing q ≡ false → probes q a true ≡ true → ⊥
    no_probes q a h i = grind arith

pub each_unasked : (t : ℕ → Probe) → all_unasked t ≡ true → (is_unasked (t 0) ≡ true) × (is_unasked (t 1) ≡ true) × (is_unasked (t 2) ≡ true) × (is_unasked (t 3) ≡ true)
each_unasked t u = four (is_unasked (t 0)) (is_unasked (t 1)) (is_unasked (t 2)) (is_unasked (t 3)) u
  where
    four : (a b c d : Bool) → (a && b && c && d) ≡ true → (a ≡ true) × (b ≡ true) × (c ≡ true) × (d ≡ true)
    four a b c d e = (grind arith, grind arith, grind arith, grind arith)

-- a request that somebody has the line of begins to ask
module _ (e : ℕ → Entry) (a : ℕ) (o : Bool) where
  home_core : (i : ℕ) → (home i a / 64 ≡ i) × (suc (home i a) / 64 ≡ i)
  home_core i = (omega arith, omega arith)

  question_at : (i : ℕ) (q : Request) (x y : Bool) → held (e (home i a)) a ≡ x → held (e (suc (home i a))) a ≡ y → probes q a o ≡ true → Asked e q i (pick x (ask (home i a) a o) (pick y (ask (suc (home i a)) a o) unasked))
  question_at i q true y h v u = ((home_core i).0, h, u)
  question_at i q false true h v u = ((home_core i).1, v, u)
  question_at i q false false h v u = tt

  question_is : (i p : ℕ) → held (e p) a ≡ true → (held (e (home i a)) a ≡ true → home i a ≡ p) → (p ≡ home i a) ⊎ (p ≡ suc (home i a)) → question e a o i ≡ ask p a o
  question_is i p h once (inl w) = rw (← w, h)
  question_is i p h once (inr w) = choose (λ z. z ≡ ask p a o) (held (e (home i a)) a) _ _ (λ u. rw (once u)) (λ u. rw (← w, h))

  lacks_both : (i : ℕ) → is_unasked (question e a o i) ≡ true → (held (e (home i a)) a ≡ false) × (held (e (suc (home i a))) a ≡ false)
  lacks_both i = split (held (e (home i a)) a) (held (e (suc (home i a))) a)
    where
      split : (x y : Bool) → is_unasked (pick x (ask (home i a) a o) (pick y (ask (suc (home i a)) a o) unasked)) ≡ true → (x ≡ false) × (y ≡ false)
      split true y u = clash u refl
      split false true u = clash u refl
      split false false u = (refl, refl)

  question_free : all_unasked (question e a o) ≡ true → free e a 4 ≡ true
  unfolding free
  question_free u = let z = each_unasked (question e a o) u in
      rw ((lacks_both 3 z.3).0, (lacks_both 3 z.3).1, (lacks_both 2 z.2).0, (lacks_both 2 z.2).1, (lacks_both 1 z.1).0, (lacks_both 1 z.1).1, (lacks_both 0 z.0).0, (lacks_both 0 z.0).1)

  pub question_some : free e a 4 ≡ false → all_unasked (question e a o) ≡ false
  question_some f = go (all_unasked (question e a o)) refl
    where
      go : (b : Bool) → all_unasked (question e a o) ≡ b → b ≡ false
      go true u = clash (question_free u) f
      go false u = refl

probes_self : (a p : ℕ) (o : Bool) → probes (wants a o p probing) a o ≡ true
probes_self a p o = grind arith

probes_says : (a b p : ℕ) (o u : Bool) → probes (wants a o p probing) b u ≡ true → (a ≡ b) × (o ≡ u)
probes_says a b p o u h = (grind arith, grind arith)

pub start_live : (e : ℕ → Entry) (r : ℕ → Request) (t : ℕ → Probe) (j k a p : ℕ) (o : Bool) → free e a 4 ≡ false → all_unasked t ≡ true →
    ((p : ℕ) → held (e p) a ≡ true → (p ≡ home (p / 64) a) ⊎ (p ≡ suc (home (p / 64) a))) →
    ((p q : ℕ) → p / 64 ≡ q / 64 → held (e p) a ≡ true → held (e q) a ≡ true → p ≡ q) →
    Live e r t j → Live e (put r k (wants a o p probing)) (question e a o) k
start_live e r t j k a p o f u place once h = record {
  one = λ i v. at_put (λ z. is_probing z ≡ true → i ≡ k) r k (wants a o p probing) i (λ w z. w) (λ w z. clash u (h.some (rw (← (h.one i z)) z))) v;
  asked = λ i. rw (put_here r k (wants a o p probing)) (question_at e a o i (wants a o p probing) (held (e (home i a)) a) (held (e (suc (home i a))) a) refl refl (probes_self a p o));
  all = λ q b v w. told_all q b (rw (put_here r k (wants a o p probing)) at v) w;
  some = λ v. question_some e a o f;
}
  where
    told_all : (q b : ℕ) → probes (wants a o p probing) b true ≡ true → held (e q) b ≡ true → question e a o (q / 64) ≡ ask q b true
    told_all q b v w = let z = probes_says a b p o true v in
        rw (← z.0, ← z.1) (question_is e a o (q / 64) q (rw z.0 w) (λ x. once (home (q / 64) a) q (home_core e a o (q / 64)).0 x (rw z.0 w)) (place q (rw z.0 w)))
