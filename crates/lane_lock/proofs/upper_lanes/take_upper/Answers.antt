use Rattle.std.proofs.Common.{rules}
use Rattle.lane_lock.proofs.Climbs.{climb_next, climb_none, stops}
use Rattle.lane_lock.proofs.upper_lanes.take_upper.Goals as goal

pub loop-lane-init : goal.loop-lane-init
loop-lane-init g c = record {
  table = search rules;
  number = search rules;
  climbed = climb_none g.K.Kept.history g.K.Kept.maker c.args.seat.now.me c.args.word;
}

pub loop-lane-preserved : goal.loop-lane-preserved
loop-lane-preserved g c = let t = c.take_to_write-found.ensures.told.0 c.if-found-ne0.false in record {
  table = search rules;
  number = search rules;
  climbed = climb_next g.K.Kept.history g.K.Kept.maker c.args.seat.now.me c.loop-lane.seat.me
      c.take_to_write-found.new.seat.me c.args.word c.loop-lane.lane t.0 (search rules) c.requires.pass.2 (search rules)
      c.loop-lane.invariant.climbed t.1 t.2 t.3;
}

pub returns-then-found-ne0-clause-told : goal.returns-then-found-ne0-clause-told
returns-then-found-ne0-clause-told g c = let t = c.take_to_write-found.ensures.told.1 c.if-found-ne0.true in
    let climbed = c.loop-lane.invariant.climbed in (
      search rules,
      stops g.K.Kept.history c.args.seat.now.me c.loop-lane.seat.me _ c.args.word _ _ (search rules)
          climbed t.0 c.holder_of.ensures t.2 t.3,
    )
