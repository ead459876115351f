use Rattle.std.proofs.Common.{rules}
use Rattle.object_table.proofs.file_objects.FileObjects.close.Goals as goal

pub returns-clause-emptied : goal.returns-clause-emptied
returns-clause-emptied g c = search rules
