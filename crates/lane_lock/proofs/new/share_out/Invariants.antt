use Rattle.std.proofs.Common.{◌≤◌, vec_capacity}
use Rattle.lane_lock.specs.Opening.{AreShares}
use Rattle.lane_lock.specs.Rule.{place}
use Rattle.lane_lock.proofs.new.share_out.Given as goal

abbrev pub invariant-loop-slot : goal.invariant-loop-slot
invariant-loop-slot g l =
    record { room : place l.lanes ≤ vec_capacity l.slots; shares : AreShares l.first l.slot l.slots.items }
