use Rattle.std.proofs.Common.{◌≡◌, ◌+◌, ◌-◌, ◌<◌, ◌≤◌, ◌^◌, length}
use Rattle.lane_lock.specs.Outcomes.{MetNone, OnlySees}
use Rattle.lane_lock.specs.Passes.{view_of}
use Rattle.shared_iommufd.specs.Ports.{IsPortOf, SamePort, most_of, standing_of}
use Rattle.shared_iommufd.specs.Servers.{settings_of}
use Rattle.shared_iommufd.proofs.PortReads.{HasGoneOn}
use Rattle.shared_iommufd.proofs.port.Port.read_on.Given as goal

abbrev pub invariant-loop-done : goal.invariant-loop-done
invariant-loop-done g l = record {
  owned : IsPortOf l.server l.self;
  same : SamePort l.initial.self l.self;
  sees : OnlySees (view_of l.initial.self.pass) (view_of l.self.pass);
  met : MetNone (view_of l.initial.self.pass) (view_of l.self.pass);
  last : l.self.last ≡ l.initial.self.last;
  from : l.initial.done ≤ l.done;
  within : l.done ≤ length l.buffer;
  fits : l.iova.0 + l.done < 2 ^ 64;
  read : HasGoneOn (settings_of l.server) l.initial.self.device (most_of l.initial.self) l.iova.0 l.initial.done
      (standing_of l.initial.self) l.initial.buffer l.done (standing_of l.self) l.buffer;
  idle : l.initial.done ≡ length l.buffer → standing_of l.self ≡ standing_of l.initial.self;
}

abbrev pub decreases-loop-done : goal.decreases-loop-done
decreases-loop-done g l = length l.buffer - l.done
