use Rattle.hwpt_device.proofs.OneUser.{none_there, users_there}
use Rattle.hwpt_device.proofs.detach.has_one_user.Goals as goal

pub returns-in-Ok : goal.returns-in-Ok
returns-in-Ok g c = users_there c.args.table.now c.args.file c.args.hwpt c.in-Ok.users c.in-Ok.ensures.ok

pub returns-in-Err : goal.returns-in-Err
returns-in-Err g c = none_there c.args.table.now c.args.file c.args.hwpt c.in-Err.ensures.refused.0
