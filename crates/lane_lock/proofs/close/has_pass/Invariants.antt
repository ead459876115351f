use Rattle.std.proofs.Common.{◌≡◌, ℕ, ◌<◌, slice_get, Some}
use Rattle.lane_lock.proofs.close.has_pass.Given as goal

abbrev pub invariant-loop-pass : goal.invariant-loop-pass
invariant-loop-pass g l =
    (i : ℕ) (p : _) → i < l.pass-index → slice_get l.passes.items i ≡ Some p → p.number ≡ l.number → ⊥
