use Rattle.std.proofs.Common.{rules}
use Rattle.event_device_access.proofs.access.may_pass.Goals as goal

pub returns-in-Some-Passes : goal.returns-in-Some-Passes
returns-in-Some-Passes g c = search rules
