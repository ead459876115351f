use Rattle.std.proofs.Common.{◌+◌, ◌≤◌, length, vec_capacity}
use Rattle.device_threads.specs.Workers.{HasRoom}
use Rattle.device_threads.proofs.Pairs.{GoOn}
use Rattle.device_threads.proofs.memory.rooms_for.Given as goal

abbrev pub invariant-loop-worker : goal.invariant-loop-worker
invariant-loop-worker l = record {
  room : length l.rooms.items + length l.left ≤ vec_capacity l.rooms;
  each : GoOn HasRoom l.workers l.left l.rooms.items;
}

abbrev pub decreases-loop-worker : goal.decreases-loop-worker
decreases-loop-worker l = length l.left
