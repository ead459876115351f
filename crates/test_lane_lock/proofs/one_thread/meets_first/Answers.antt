use Rattle.std.proofs.Common.{◌≡◌, ℕ, zero, suc, List, [], ◌∷◌, set, slice_get, Some, subst}
use Rattle.lane_lock.specs.declared.kept.Kept as kept
use Rattle.lane_lock.specs.declared.lock.LaneLock.{LaneLock}
use Rattle.lane_lock.specs.declared.pass.Pass.{Pass}
use Rattle.lane_lock.specs.Passes.{Owns, OwnsAll}
use Rattle.test_lane_lock.proofs.one_thread.meets_first.Goals as goal

module _ {K A S E : Type 0} {g : kept.Ghosts K A S E} (lock : LaneLock K A S E) where
  -- another pass of the lock stands first
  first_set : (xs : List (Pass K A S E g)) (p : Pass K A S E g) → OwnsAll lock xs → Owns lock p → (i : ℕ)
      (q : Pass K A S E g) → slice_get (set xs 0 p) i ≡ Some q → Owns lock q
  first_set [] p all own i q e = all i q e
  first_set (x ∷ xs) p all own zero q e = let same : p ≡ q = cc in subst (Owns lock) same own
  first_set (x ∷ xs) p all own (suc i) q e = all (suc i) q e

pub returns-else-is_empty : goal.returns-else-is_empty
returns-else-is_empty c = (
  c.passes_meet.ensures.0,
  first_set c.args.lock.now c.args.others.now c.passes_meet.new.other c.requires.1 c.passes_meet.ensures.1,
)
