use Rattle.std.proofs.Common.{◌≡◌, ◌+◌, ◌<◌, ◌≤◌, ◌^◌, None, length}
use Rattle.lane_lock.specs.Outcomes.{OnlySees}
use Rattle.lane_lock.specs.Passes.{view_of}
use Rattle.shared_iommufd.specs.Ports.{IsPortOf, SamePort, most_of, standing_of}
use Rattle.shared_iommufd.specs.PortReads.{HasRead}
use Rattle.shared_iommufd.specs.Servers.{settings_of}
use Rattle.shared_iommufd.proofs.port.Port.read.Given as goal

abbrev pub invariant-loop : goal.invariant-loop
invariant-loop g l = record {
  can_next : (goal.iterator-loop g).can_next l.iterator';
  is_finite : (goal.iterator-loop g).is_finite l.iterator';
  owned : IsPortOf l.server l.self;
  same : SamePort l.initial.self l.self;
  sees : OnlySees (view_of l.initial.self.pass) (view_of l.self.pass);
  last : l.self.last ≡ None;
  within : l.done ≤ length l.buffer;
  fits : l.iova.0 + l.done < 2 ^ 64;
  read : HasRead (settings_of l.server) l.initial.self.device (most_of l.initial.self) l.iova.0 l.initial.buffer
      (standing_of l.initial.self) l.done (standing_of l.self) l.buffer;
  idle : length l.buffer ≡ 0 → standing_of l.self ≡ standing_of l.initial.self;
}
