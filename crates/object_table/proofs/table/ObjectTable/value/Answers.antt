use Rattle.std.proofs.Common.{rules}
use Rattle.object_table.proofs.table.ObjectTable.value.Goals as goal

pub returns : goal.returns
returns g c = search rules
