use Rattle.std.proofs.Common.{length}
use Rattle.shared_iommufd.specs.Servers.{ArePassesOf}
use Rattle.device_threads.specs.Workers.{AllBack}
use Rattle.test_device_threads.proofs.test_site.TestSiteSite.ended.Given as goal

abbrev pub invariant-loop-one : goal.invariant-loop-one
invariant-loop-one l = record {
  back : AllBack l.server l.idle.items;
  passes : ArePassesOf l.server l.passes.items;
}

abbrev pub decreases-loop-one : goal.decreases-loop-one
decreases-loop-one l = length l.idle.items
