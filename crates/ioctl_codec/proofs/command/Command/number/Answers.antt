use Rattle.std.proofs.Common.{rules}
use Rattle.ioctl_codec.proofs.command.Command.number.Goals as goal

pub returns-in-IoasUnmap : goal.returns-in-IoasUnmap
returns-in-IoasUnmap c = search rules
