use Rattle.lane_lock.specs.Passes.{Owns}
use Rattle.test_lane_lock.proofs.threads.work.Given as goal

abbrev pub invariant-loop : goal.invariant-loop
invariant-loop g l = record {
  can_next : (goal.iterator-loop g).can_next l.iterator';
  is_finite : (goal.iterator-loop g).is_finite l.iterator';
  owned : Owns l.lock l.pass;
}
