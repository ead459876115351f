use Rattle.std.proofs.Common.{◌≡◌, ℕ, ◌<◌, slice_get, Some, false}
use Rattle.std.specs.Prelude.{is_some}
use Rattle.lane_lock.proofs.close.are_idle.Given as goal

abbrev pub invariant-loop-pass : goal.invariant-loop-pass
invariant-loop-pass g l =
    (i : ℕ) (p : _) → i < l.pass-index → slice_get l.passes.items i ≡ Some p → is_some p.share ≡ false
