use Rattle.std.proofs.Common.{◌≡◌, ℕ, zero, suc, ◌<◌, List, [], ◌∷◌, ◌++◌, length, get_or, slice_get, Some, subst}
use Rattle.std.proofs.Common.{arith}
use Rattle.std.proofs.lemmas.Option.{slice_get-get_or}
use Rattle.lane_lock.specs.declared.kept.Kept as kept
use Rattle.lane_lock.specs.declared.lock.LaneLock.{LaneLock}
use Rattle.lane_lock.specs.declared.pass.Pass.{Pass}
use Rattle.lane_lock.specs.Passes.{Owns, OwnsAll}
use Rattle.test_lane_lock.proofs.one_thread.each_lent.Goals as goal

module _ {K A S E : Type 0} {g : kept.Ghosts K A S E} (lock : LaneLock K A S E) where
  -- the passes of two lists, and the first of one
  front : (xs ys : List (Pass K A S E g)) → OwnsAll lock (xs ++ ys) → (i : ℕ) (q : Pass K A S E g)
      → slice_get xs i ≡ Some q → Owns lock q
  front [] ys all i q e = cc
  front (x ∷ xs) ys all zero q e = all zero q e
  front (x ∷ xs) ys all (suc i) q e = front xs ys (λ j. all (suc j)) i q e

  back : (xs ys : List (Pass K A S E g)) → OwnsAll lock (xs ++ ys) → (i : ℕ) (q : Pass K A S E g)
      → slice_get ys i ≡ Some q → Owns lock q
  back [] ys all = all
  back (x ∷ xs) ys all = back xs ys (λ j. all (suc j))

  first_of : (xs : List (Pass K A S E g)) (d : Pass K A S E g) → OwnsAll lock xs → 0 < length xs
      → Owns lock (get_or xs 0 d)
  first_of xs d all some = all 0 (get_or xs 0 d) (slice_get-get_or xs 0 d some)

pub three_passes-requires : goal.three_passes-requires
three_passes-requires c =
    let lock = c.args.lock.now in
    let one = c.split_at_mut-first in
    let two = c.split_at_mut-second in
    let p = one.result.0.now in
    let rest = one.result.1.now in
    let q = two.result.0.now in
    let r = two.result.1.now in
    let all : OwnsAll lock (p ++ rest) = subst (OwnsAll lock) one.ensures.value c.requires.owned in
    let others : OwnsAll lock (q ++ r) = subst (OwnsAll lock) two.ensures.value (back lock p rest all) in
    let left : 0 < length r = omega (arith, one.ensures.back_len, two.ensures.back_len, c.requires.count) in (
      first_of lock p c.index-first-0.result (front lock p rest all) (omega (arith, one.ensures.front_len)),
      first_of lock q c.index-second-0.result (front lock q r others) (omega (arith, two.ensures.front_len)),
      first_of lock r c.index-third-0.result (back lock q r others) left,
    )
