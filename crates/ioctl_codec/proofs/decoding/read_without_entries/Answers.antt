use Rattle.std.proofs.Common.{rules}
use Rattle.ioctl_codec.proofs.decoding.read_without_entries.Goals as goal

pub returns-in_default-clause-refused : goal.returns-in_default-clause-refused
returns-in_default-clause-refused g c = search rules
