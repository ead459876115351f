use Rattle.std.proofs.Common.{rules}
use Rattle.ioctl_codec.proofs.number.u32_at.Goals as goal

pub returns-clause-value : goal.returns-clause-value
returns-clause-value c = search rules
