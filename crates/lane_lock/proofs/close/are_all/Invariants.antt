use Rattle.std.proofs.Common.{ℕ, ◌<◌}
use Rattle.lane_lock.specs.Ending.{HasNumber}
use Rattle.lane_lock.proofs.close.are_all.Given as goal

abbrev pub invariant-loop-number : goal.invariant-loop-number
invariant-loop-number g l = (n : ℕ) → n < l.number → HasNumber l.passes.items n
