use Rattle.lane_lock.specs.Passes.{Owns}
use Rattle.test_lane_lock.proofs.lanes.one.Given as goal

abbrev pub invariant-loop : goal.invariant-loop
invariant-loop g l = Owns l.lock l.pass
