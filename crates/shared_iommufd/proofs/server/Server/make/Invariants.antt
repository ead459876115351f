use Rattle.lane_lock.specs.Outcomes.{HadNoLane, OnlySees}
use Rattle.lane_lock.specs.Passes.{SamePass, view_of}
use Rattle.shared_iommufd.specs.Servers.{IsPassOf}
use Rattle.shared_iommufd.proofs.server.Server.make.Given as goal

abbrev pub invariant-loop : goal.invariant-loop
invariant-loop g l = record {
  can_next : (goal.iterator-loop g).can_next l.iterator';
  is_finite : (goal.iterator-loop g).is_finite l.iterator';
  owned : IsPassOf l.self l.pass;
  same : SamePass l.initial.pass l.pass;
  sees : OnlySees (view_of l.initial.pass) (view_of l.pass);
  had : HadNoLane (view_of l.initial.pass) (view_of l.pass);
}
