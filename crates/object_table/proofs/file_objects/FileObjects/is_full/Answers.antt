use Rattle.std.proofs.Common.{rules}
use Rattle.object_table.proofs.file_objects.FileObjects.is_full.Goals as goal

pub returns-then-self : goal.returns-then-self
returns-then-self g c = search rules
