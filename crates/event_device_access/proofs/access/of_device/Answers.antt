use Rattle.std.proofs.Common.{rules}
use Rattle.iofd_words.specs.Policy.{access_outcomes}
use Rattle.event_device_access.proofs.access.of_device.Goals as goal

pub returns-then-is_beyond : goal.returns-then-is_beyond
unfolding access_outcomes
returns-then-is_beyond g c = search rules
