use Rattle.std.proofs.Common.{rules}
use Rattle.object_table.proofs.table.ObjectTable.remove_user.Goals as goal

pub returns-clause-ok : goal.returns-clause-ok
returns-clause-ok g c = search rules
