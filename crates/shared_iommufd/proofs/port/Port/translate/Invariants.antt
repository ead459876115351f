use Rattle.std.proofs.Common.{◌≡◌, None}
use Rattle.lane_lock.specs.Outcomes.{HadNone, OnlySees}
use Rattle.lane_lock.specs.Passes.{view_of}
use Rattle.shared_iommufd.specs.Ports.{IsPortOf, KeepsSame, SamePort, standing_of}
use Rattle.shared_iommufd.proofs.port.Port.translate.Given as goal

abbrev pub invariant-loop : goal.invariant-loop
invariant-loop g l = record {
  can_next : (goal.iterator-loop g).can_next l.iterator';
  is_finite : (goal.iterator-loop g).is_finite l.iterator';
  owned : IsPortOf l.server l.self;
  same : SamePort l.initial.self l.self;
  sees : OnlySees (view_of l.initial.self.pass) (view_of l.self.pass);
  had : HadNone (view_of l.initial.self.pass) (view_of l.self.pass);
  keeps : KeepsSame (standing_of l.initial.self) (standing_of l.self);
  last : l.self.last ≡ None;
}
