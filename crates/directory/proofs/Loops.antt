-- None of four cores has a line, or a request for it under way.
use Rattle.std.proofs.Common.{◌≡◌, ℕ, suc, Bool, true, false, not, ◌||◌, refl, sym}
use Rattle.std.specs.List.{list_all, range_with_len}
use Rattle.cores.specs.Machines.{pick}
use Rattle.cache.specs.Slots.{home}
use Rattle.link.proofs.Tables.{none_of_four}
use Rattle.directory.specs.Directory.{Entry, Request, busy, free, held, keeps, unhurried}

either : (x y z : Bool) → pick x false (pick y false z) ≡ pick (x || y) false z
either true y z = refl
either false y z = refl

module _ (e : ℕ → Entry) (a : ℕ) where
  free_none : free e a 0 ≡ true
  unfolding free
  free_none = refl

  free_more : (n : ℕ) → free e a (suc n) ≡ pick (keeps e a n) false (free e a n)
  unfolding free
  free_more n = either (held (e (home n a)) a) (held (e (suc (home n a))) a) (free e a n)

  pub free_four : list_all (λ j. not (keeps e a j)) (range_with_len 0 4) ≡ free e a 4
  free_four = sym (none_of_four (keeps e a) (free e a) free_none free_more)

module _ (r : ℕ → Request) (a : ℕ) where
  unhurried_none : unhurried r a 0 ≡ true
  unfolding unhurried
  unhurried_none = refl

  unhurried_more : (n : ℕ) → unhurried r a (suc n) ≡ pick (busy (r n) a) false (unhurried r a n)
  unfolding unhurried
  unhurried_more n = refl

  pub unhurried_four : list_all (λ k. not (busy (r k) a)) (range_with_len 0 4) ≡ unhurried r a 4
  unhurried_four = sym (none_of_four (λ k. busy (r k) a) (unhurried r a) unhurried_none unhurried_more)
