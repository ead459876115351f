use Rattle.std.proofs.Common.{rules}
use Rattle.event_device_access.proofs.access.at_area.Goals as goal

pub returns : goal.returns
returns c = search rules
