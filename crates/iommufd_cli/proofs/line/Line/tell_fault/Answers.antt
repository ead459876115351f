use Rattle.std.proofs.Common.{rules}
use Rattle.iommufd_cli.proofs.line.Line.tell_fault.Goals as goal

pub returns : goal.returns
returns c = search rules
