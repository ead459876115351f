use Rattle.std.proofs.Common.{rules}
use Rattle.object_table.proofs.kind.Kind.keeps_file_open.Goals as goal

pub returns-in_default : goal.returns-in_default
returns-in_default c = search rules
