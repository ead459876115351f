use Rattle.std.proofs.Common.{rules}
use Rattle.iova_ranges.proofs.removing.trim.Goals as goal

pub returns : goal.returns
returns c = search rules
