use Rattle.std.proofs.Common.{◌≡◌, ◌+◌, ◌<◌, ◌≤◌, ◌^◌, length}
use Rattle.shared_iommufd.specs.Ports.{IsPortOf, SamePort, most_of, standing_of}
use Rattle.shared_iommufd.specs.PortWrites.{HasWritten}
use Rattle.shared_iommufd.specs.Servers.{settings_of}
use Rattle.shared_iommufd.proofs.port.Port.write.Given as goal

abbrev pub invariant-loop : goal.invariant-loop
invariant-loop g l = record {
  can_next : (goal.iterator-loop g).can_next l.iterator';
  is_finite : (goal.iterator-loop g).is_finite l.iterator';
  owned : IsPortOf l.server l.self;
  same : SamePort l.initial.self l.self;
  within : l.done ≤ length l.bytes;
  fits : l.iova.0 + l.done < 2 ^ 64;
  written : HasWritten (settings_of l.server) l.initial.self.device (most_of l.initial.self) l.iova.0 l.bytes
      (standing_of l.initial.self) l.done (standing_of l.self) l.self.last;
  idle : length l.bytes ≡ 0 → standing_of l.self ≡ standing_of l.initial.self;
}
