use Rattle.std.proofs.Common.{rules}
use Rattle.iova_ranges.proofs.removing.has_around.Goals as goal

pub returns-then-first : goal.returns-then-first
returns-then-first c = search rules
