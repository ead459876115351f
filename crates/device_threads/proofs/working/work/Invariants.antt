use Rattle.std.proofs.Common.{◌≡◌, ◌+◌, ◌≤◌, length, vec_capacity}
use Rattle.std.specs.Vec.Iter.{into_iter_items, into_iter_len}
use Rattle.lane_lock.specs.Passes.{lanes_of}
use Rattle.shared_iommufd.specs.Ports.{IsPortOf, SamePort}
use Rattle.shared_iommufd.specs.Servers.{settings_of}
use Rattle.device_threads.proofs.Done.{GoesOn}
use Rattle.device_threads.proofs.working.work.Given as goal

abbrev pub invariant-loop-job : goal.invariant-loop-job
invariant-loop-job g l = record {
  owned : IsPortOf l.server l.port;
  same : SamePort l.fn.worker.port l.port;
  measured : into_iter_len l.left ≡ length (into_iter_items l.left);
  counted : length l.results.items + length (into_iter_items l.left) ≡ length l.fn.worker.jobs.items;
  numbered : l.number ≡ length l.results.items;
  room : length l.fn.worker.jobs.items ≤ vec_capacity l.results;
  done : GoesOn (settings_of l.server) (lanes_of l.server.lock) l.fn.worker.port l.fn.worker.jobs.items (l.number + 1)
      l.port (into_iter_items l.left) l.results.items;
}

abbrev pub decreases-loop-job : goal.decreases-loop-job
decreases-loop-job g l = into_iter_len l.left
