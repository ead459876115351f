use Rattle.std.proofs.Common.{None}
use Rattle.server_state.proofs.AccessesHeld.{detached_counted}
use Rattle.server_state.proofs.access_changes.detach.Goals as goal

pub returns : goal.returns
returns g c = λ orderly has space some.
    detached_counted c.args.table.now c.set_attached.new.table c.remove_user.new.table c.args.file c.args.id c.args.ioas
    None (c.set_attached.ensures orderly has) space c.remove_user.ensures.others c.remove_user.ensures.rows some
