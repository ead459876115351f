use Rattle.std.proofs.Common.{◌≡◌, ◌-◌, ◌<◌, ◌≤◌}
use Rattle.lane_lock.specs.Hands.{Lowered, Shows}
use Rattle.lane_lock.proofs.upper_lanes.put_back_upper.Given as goal

abbrev pub invariant-loop-lane : goal.invariant-loop-lane
invariant-loop-lane g l = record {
  some : 0 < l.lane;
  within : l.lane ≤ l.count;
  table : l.seat.table_id ≡ l.initial.seat.table_id;
  number : l.seat.id ≡ l.initial.seat.id;
  lowered : Lowered (Shows g.K.Kept.history l.initial.seat.me.0.seen) (l.count - 1) (l.lane - 1)
      l.initial.seat.me l.seat.me;
}

abbrev pub decreases-loop-lane : goal.decreases-loop-lane
decreases-loop-lane g l = l.lane
