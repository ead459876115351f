use Rattle.std.proofs.Common.{rules}
use Rattle.iofd_words.proofs.device_set.DeviceSet.place.Goals as goal

pub returns-clause-bit : goal.returns-clause-bit
returns-clause-bit c = search rules
