use Rattle.std.proofs.Common.{rules, ap, ◌∙◌}
use Rattle.atomic_table.specs.Table.{turned}
use Rattle.lane_lock.proofs.Drops.{drop_none, drop_next, top_there}
use Rattle.lane_lock.proofs.upper_lanes.drop_shares.Goals as goal

pub loop-lane-init : goal.loop-lane-init
loop-lane-init g c = record {
  some = search rules;
  table = search rules;
  number = search rules;
  view = search rules;
  dropped = drop_none _ _ c.requires.stack;
}

pub exchange-requires : goal.exchange-requires
exchange-requires g c = (search rules, top_there _ _ _ c.loop-lane-test.true c.loop-lane.invariant.dropped)

pub loop-lane-preserved : goal.loop-lane-preserved
loop-lane-preserved g c = record {
  some = search rules;
  table = search rules;
  number = search rules;
  view = search rules;
  dropped = drop_next _ _ c.loop-lane.seat.me.1 _ c.loop-lane-test.true c.loop-lane.invariant.dropped
      (ap (λ m. m.1) c.turn.ensures.2 ∙ ap (λ m. turned m.1) c.exchange.ensures.3);
}
