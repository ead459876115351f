use Rattle.std.proofs.Common.{rules}
use Rattle.lane_lock.proofs.write_guard.WriteGuard.get.Goals as goal

pub returns-clause-value : goal.returns-clause-value
returns-clause-value g c = (_, c.in-Some.is, search rules)
