-- How many frames a pool has.
use Rattle.std.proofs.Common.{◌≡◌, ◌≤◌, ℕ, Bool, true, false, None, refl, arith}
use Rattle.std.proofs.lemmas.Bool.Decides.{nat_tests}
use Rattle.iofd_words.specs.Limits.{first_outside}
use Rattle.iofd_words.specs.Settings.{Settings, is_between}

-- at most 4096, by which the configuration is within its limits
pub pool_few : (s : Settings) (n : ℕ) → n ≡ s.pool → first_outside s ≡ None → n ≤ 4096
pool_few s n is within = rw is (by_test (is_between 1 4096 s.pool) refl within)
  where
    by_test : (b : Bool) → is_between 1 4096 s.pool ≡ b → first_outside s ≡ None → s.pool ≤ 4096
    by_test true is within = search (is, arith, nat_tests)
    by_test false is within = let first = rw is at within in cc
