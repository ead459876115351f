use Rattle.server_state.proofs.UsersTold.{none_told, users_told}
use Rattle.server_state.proofs.state.State.has_users.Goals as goal

pub returns-in-Ok : goal.returns-in-Ok
returns-in-Ok g c = users_told c.args.self.now c.args.file c.args.ioas c.requires c.in-Ok.users c.in-Ok.ensures.ok

pub returns-in-Err : goal.returns-in-Err
returns-in-Err g c = none_told c.args.self.now c.args.file c.args.ioas c.requires c.in-Err.ensures.refused.0
