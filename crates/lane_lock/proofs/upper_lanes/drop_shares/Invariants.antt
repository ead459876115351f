use Rattle.std.proofs.Common.{◌≡◌, ◌-◌, ◌<◌}
use Rattle.lane_lock.specs.Hands.{Dropped}
use Rattle.lane_lock.proofs.upper_lanes.drop_shares.Given as goal

abbrev pub invariant-loop-lane : goal.invariant-loop-lane
invariant-loop-lane g l = record {
  some : 0 < l.lane;
  table : l.seat.table_id ≡ l.initial.seat.table_id;
  number : l.seat.id ≡ l.initial.seat.id;
  view : l.seat.me.0 ≡ l.initial.seat.me.0;
  dropped : Dropped (l.count - 1) (l.lane - 1) l.seat.me.1;
}

abbrev pub decreases-loop-lane : goal.decreases-loop-lane
decreases-loop-lane g l = l.lane
