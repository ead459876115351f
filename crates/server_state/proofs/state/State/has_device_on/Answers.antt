use Rattle.server_state.proofs.UsersTold.{no_device_told, devices_told}
use Rattle.server_state.proofs.state.State.has_device_on.Goals as goal

pub returns-in-Ok : goal.returns-in-Ok
returns-in-Ok g c = devices_told c.args.self.now c.args.file c.args.hwpt c.requires c.in-Ok.users c.in-Ok.ensures.ok

pub returns-in-Err : goal.returns-in-Err
returns-in-Err g c = no_device_told c.args.self.now c.args.file c.args.hwpt c.requires c.in-Err.ensures.refused.0
