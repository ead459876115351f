use Rattle.std.proofs.Common.{◌≡◌, ◌-◌}
use Rattle.lane_lock.specs.Hands.{Climbed}
use Rattle.lane_lock.proofs.upper_lanes.take_upper.Given as goal

abbrev pub invariant-loop-lane : goal.invariant-loop-lane
invariant-loop-lane g l = record {
  table : l.seat.table_id ≡ l.initial.seat.table_id;
  number : l.seat.id ≡ l.initial.seat.id;
  climbed : Climbed g.K.Kept.history l.initial.seat.me l.word (l.lane - 1) l.seat.me;
}
