use Rattle.std.proofs.Common.{◌≡◌, ⊎_elim, Bool, true, false, cond, List, [], ◌∷◌, ◌++◌, slice_get, Some, sym, refl}
use Rattle.std.proofs.Common.{subst, is_ok}
use Rattle.lane_lock.specs.declared.kept.Kept as kept
use Rattle.lane_lock.specs.declared.lock.LaneLock.{LaneLock}
use Rattle.lane_lock.specs.declared.pass.Pass.{Pass}
use Rattle.lane_lock.specs.Passes.{Owns, OwnsAll}
use Rattle.lane_lock.proofs.PassLists.{either_at}
use Rattle.test_lane_lock.proofs.one_thread.put_last.Goals as goal

-- one more pass of the lock, or none
owned_after : {K A S E : Type 0} {g : kept.Ghosts K A S E} (lock : LaneLock K A S E) (ps : List (Pass K A S E g))
    (p : Pass K A S E g) (b : Bool) → OwnsAll lock ps → Owns lock p → OwnsAll lock (cond b (ps ++ p ∷ []) ps)
owned_after lock ps p true all own = λ i q e. ⊎_elim (λ (h : slice_get ps i ≡ Some q). all i q h)
    (λ (h : p ≡ q). subst (Owns lock) h own) (either_at (ps ++ p ∷ []) ps p q i refl e)
owned_after lock ps p false all own = all

pub returns : goal.returns
returns c = subst (OwnsAll c.args.lock.now) (sym c.push.ensures.items)
    (owned_after c.args.lock.now c.args.passes.now.items c.args.pass (is_ok c.push.result) c.requires.0 c.requires.1)
