use Rattle.std.proofs.Common.{rules}
use Rattle.iova_ranges.proofs.range_set.RangeSet.reserve.Goals as goal

pub returns-clause-ok : goal.returns-clause-ok
returns-clause-ok g c = search rules
