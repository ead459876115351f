use Rattle.std.proofs.Common.{rules}
use Rattle.event_device_access.proofs.access.by_phase.Goals as goal

pub returns-in-Leaving-Some : goal.returns-in-Leaving-Some
returns-in-Leaving-Some c = search rules
