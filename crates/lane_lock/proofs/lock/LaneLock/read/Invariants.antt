use Rattle.lane_lock.specs.Outcomes.{HadNone, OnlySees}
use Rattle.lane_lock.specs.Passes.{Owns, SamePass, view_of}
use Rattle.lane_lock.proofs.lock.LaneLock.read.Given as goal

abbrev pub invariant-loop : goal.invariant-loop
invariant-loop g l = record {
  can_next : (goal.iterator-loop g).can_next l.iterator';
  is_finite : (goal.iterator-loop g).is_finite l.iterator';
  owned : Owns l.self l.pass;
  same : SamePass l.initial.pass l.pass;
  sees : OnlySees (view_of l.initial.pass) (view_of l.pass);
  had : HadNone (view_of l.initial.pass) (view_of l.pass);
}
