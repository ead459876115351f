use Rattle.std.proofs.Common.{below_more}
use Rattle.lane_lock.specs.Ending.{HasNumber}
use Rattle.lane_lock.proofs.close.are_all.Goals as goal

pub loop-number-preserved : goal.loop-number-preserved
loop-number-preserved g c = below_more (HasNumber c.args.passes.now.items) c.loop-number.number c.loop-number.invariant
    c.if-not-has_pass.ensures
