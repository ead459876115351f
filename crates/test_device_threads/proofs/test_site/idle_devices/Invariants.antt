use Rattle.std.proofs.Common.{length}
use Rattle.shared_iommufd.specs.Servers.{ArePassesOf}
use Rattle.device_threads.specs.Workers.{AllBack}
use Rattle.test_device_threads.specs.Keys.{AreKeys}
use Rattle.test_device_threads.proofs.test_site.idle_devices.Given as goal

abbrev pub invariant-loop-key : goal.invariant-loop-key
invariant-loop-key l = record {
  keys : AreKeys l.server l.keys.items;
  passes : ArePassesOf l.server l.passes.items;
  back : AllBack l.server l.idle.items;
}

abbrev pub decreases-loop-key : goal.decreases-loop-key
decreases-loop-key l = length l.keys.items
