use Rattle.std.proofs.Common.{rules}
use Rattle.iova_ranges.proofs.fitting.room_in.Goals as goal

pub returns-then-start-from-clause-value : goal.returns-then-start-from-clause-value
returns-then-start-from-clause-value c = search rules

pub returns-else-start-from-clause-value : goal.returns-else-start-from-clause-value
returns-else-start-from-clause-value c = search rules
