use Rattle.std.proofs.Common.{rules}
use Rattle.iova_ranges.proofs.allowed.Allowed.replace.Goals as goal

pub returns-clause-set : goal.returns-clause-set
returns-clause-set g c = search rules
