use Rattle.std.proofs.Common.{rules}
use Rattle.lane_lock.proofs.steps.put_back_with.Goals as goal

pub put_back_last-requires-clause-share : goal.put_back_last-requires-clause-share
put_back_last-requires-clause-share g c = (c.args.share, search rules, search rules)
