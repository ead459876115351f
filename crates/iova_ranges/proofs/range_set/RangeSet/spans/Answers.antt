use Rattle.std.proofs.Common.{rules}
use Rattle.iova_ranges.proofs.range_set.RangeSet.spans.Goals as goal

pub returns-clause-spans : goal.returns-clause-spans
returns-clause-spans g c = search rules
