use Rattle.std.proofs.Common.{rules}
use Rattle.object_table.proofs.iter.ObjectsIterator.next.Goals as goal

pub returns-clause-steps : goal.returns-clause-steps
returns-clause-steps g c = search rules
