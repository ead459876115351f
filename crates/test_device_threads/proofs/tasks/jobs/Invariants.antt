use Rattle.std.proofs.Common.{◌≤◌, length}
use Rattle.test_device_threads.proofs.tasks.jobs.Given as goal

abbrev pub invariant-loop-done : goal.invariant-loop-done
invariant-loop-done l = length l.jobs.items ≤ l.done
