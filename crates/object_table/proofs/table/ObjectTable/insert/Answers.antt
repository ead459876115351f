use Rattle.std.proofs.Common.{rules}
use Rattle.object_table.proofs.table.ObjectTable.insert.Goals as goal

pub returns-in-Ok-clause-rows : goal.returns-in-Ok-clause-rows
returns-in-Ok-clause-rows g c = search rules
