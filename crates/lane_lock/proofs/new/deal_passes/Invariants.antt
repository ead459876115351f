use Rattle.std.proofs.Common.{◌≡◌, ◌-◌, ◌≤◌, [], vec_capacity}
use Rattle.lane_lock.specs.Passes.{AllNew, opening_of}
use Rattle.lane_lock.specs.Rule.{newcomer, crowd}
use Rattle.lane_lock.proofs.new.deal_passes.Given as goal

abbrev pub invariant-loop-number : goal.invariant-loop-number
invariant-loop-number g l = record {
  room : l.lock.passes ≤ vec_capacity l.dealt;
  table : l.seat.table_id ≡ l.lock.table.shared.table_id;
  view : l.seat.me ≡ (
    newcomer l.last (opening_of g.K.Kept.history l.lock) l.lock.passes l.lock.lanes
        (crowd l.number (l.last - l.number)),
    [],
  );
  new : AllNew l.lock l.number l.dealt.items;
}
