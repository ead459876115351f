use Rattle.std.proofs.Common.{◌≡◌, ◌+◌, ◌-◌, ◌<◌, ◌≤◌, ◌^◌, length}
use Rattle.lane_lock.specs.Outcomes.{MetNone}
use Rattle.lane_lock.specs.Passes.{view_of}
use Rattle.shared_iommufd.specs.Ports.{IsPortOf, SamePort, most_of, standing_of}
use Rattle.shared_iommufd.specs.Servers.{settings_of}
use Rattle.shared_iommufd.proofs.PortWrites.{HasGoneOn}
use Rattle.shared_iommufd.proofs.port.Port.write_on.Given as goal

abbrev pub invariant-loop-done : goal.invariant-loop-done
invariant-loop-done g l = record {
  owned : IsPortOf l.server l.self;
  same : SamePort l.initial.self l.self;
  met : MetNone (view_of l.initial.self.pass) (view_of l.self.pass);
  from : l.initial.done ≤ l.done;
  within : l.done ≤ length l.bytes;
  fits : l.iova.0 + l.done < 2 ^ 64;
  written : HasGoneOn (settings_of l.server) l.initial.self.device (most_of l.initial.self) l.iova.0 l.bytes
      l.initial.done (standing_of l.initial.self) l.initial.self.last l.done (standing_of l.self) l.self.last;
  idle : l.initial.done ≡ length l.bytes → standing_of l.self ≡ standing_of l.initial.self;
}

abbrev pub decreases-loop-done : goal.decreases-loop-done
decreases-loop-done g l = length l.bytes - l.done
