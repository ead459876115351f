use Rattle.std.proofs.Common.{rules}
use Rattle.iommufd_cli.proofs.line.Line.tell_ioctl.Goals as goal

pub returns-in_default : goal.returns-in_default
returns-in_default c = search rules
