use Rattle.std.proofs.Common.{◌-◌, refl, ◌∙◌, arith}
use Rattle.lane_lock.specs.Hands.{Shows}
use Rattle.lane_lock.proofs.Climbs.{lower_all, lower_next, lower_none, lower_offer, lower_pass}
use Rattle.lane_lock.proofs.upper_lanes.put_back_upper.Goals as goal

pub loop-lane-init : goal.loop-lane-init
loop-lane-init g c = record {
  some = c.requires.table.1;
  within = omega arith;
  table = refl;
  number = refl;
  lowered = lower_none (Shows g.K.Kept.history c.args.seat.now.me.0.seen) c.args.seat.now.me (c.args.count - 1)
      c.requires.stack;
}

pub put_back_pinned-requires-clause-table : goal.put_back_pinned-requires-clause-table
put_back_pinned-requires-clause-table g c = let within = c.loop-lane.invariant.within in let few = c.requires.table.2 in
    let some = c.loop-lane-test.true in
    (c.loop-lane.invariant.table ∙ c.requires.table.0, omega (arith, within, few, some))

pub put_back_pinned-requires-clause-pass : goal.put_back_pinned-requires-clause-pass
put_back_pinned-requires-clause-pass g c =
    lower_pass (Shows g.K.Kept.history c.args.seat.now.me.0.seen) c.args.seat.now.me c.loop-lane.seat.me
    (c.args.count - 1) c.loop-lane.lane c.args.count c.loop-lane-test.true c.loop-lane.invariant.within
    c.loop-lane.invariant.lowered c.requires.pass.0 c.requires.pass.2

pub put_back_pinned-requires-clause-share : goal.put_back_pinned-requires-clause-share
put_back_pinned-requires-clause-share g c =
    lower_offer g.K.Kept.history c.args.seat.now.me c.loop-lane.seat.me (c.args.count - 1) c.loop-lane.lane
    c.loop-lane-test.true c.loop-lane.invariant.lowered c.requires.pass.1

pub loop-lane-preserved : goal.loop-lane-preserved
loop-lane-preserved g c = let i = c.loop-lane.invariant in let e = c.put_back_pinned.ensures in
    let some = c.loop-lane-test.true in let within = i.within in record {
      some = omega (arith, some);
      within = omega (arith, within);
      table = e.same_seat.0 ∙ i.table;
      number = e.same_seat.1 ∙ i.number;
      lowered = lower_next (Shows g.K.Kept.history c.args.seat.now.me.0.seen) c.args.seat.now.me c.loop-lane.seat.me
          c.put_back_pinned.new.seat.me (c.args.count - 1) c.loop-lane.lane some (omega (arith, within, some)) i.lowered
          e.told;
    }

pub returns-clause-same_seat : goal.returns-clause-same_seat
returns-clause-same_seat g c = (c.loop-lane.invariant.table, c.loop-lane.invariant.number)

pub returns-clause-lowered : goal.returns-clause-lowered
returns-clause-lowered g c =
    lower_all (Shows g.K.Kept.history c.args.seat.now.me.0.seen) c.args.seat.now.me c.loop-lane.seat.me
    (c.args.count - 1) 0 c.loop-lane.lane c.loop-lane.invariant.some c.loop-lane-test.false
    c.loop-lane.invariant.lowered
