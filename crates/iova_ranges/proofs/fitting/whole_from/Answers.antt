use Rattle.std.proofs.Common.{rules}
use Rattle.iova_ranges.proofs.fitting.whole_from.Goals as goal

pub returns-clause-value : goal.returns-clause-value
returns-clause-value c = search rules
