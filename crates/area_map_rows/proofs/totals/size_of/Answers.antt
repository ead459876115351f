use Rattle.std.proofs.Common.{rules}
use Rattle.area_map_rows.proofs.totals.size_of.Goals as goal

pub returns-clause-value : goal.returns-clause-value
returns-clause-value c = search rules
