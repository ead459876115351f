use Rattle.std.proofs.Common.{rules}
use Rattle.object_table.proofs.table.ObjectTable.own_entry.Goals as goal

pub returns-in-Some-clause-ok : goal.returns-in-Some-clause-ok
returns-in-Some-clause-ok g c = search rules
