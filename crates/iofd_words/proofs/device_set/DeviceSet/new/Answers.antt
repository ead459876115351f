use Rattle.iofd_words.specs.DeviceSet.{most_devices}
use Rattle.iofd_words.proofs.Members.{filter_none}
use Rattle.iofd_words.proofs.Bits.{has_bit-zeros}
use Rattle.iofd_words.proofs.device_set.DeviceSet.new.Goals as goal

pub returns : goal.returns
returns c = filter_none _ 1 most_devices (λ d _ _. has_bit-zeros d)
