use Rattle.std.proofs.Common.{Some}
use Rattle.server_state.proofs.AccessesHeld.{attached_counted}
use Rattle.server_state.proofs.access_changes.attach.Goals as goal

pub returns : goal.returns
returns g c = λ orderly has space few.
    attached_counted c.args.table.now c.set_attached.new.table c.add_user.new.table c.args.file c.args.id c.args.ioas
    (Some c.args.ioas) (c.set_attached.ensures orderly has) space c.add_user.ensures.others c.add_user.ensures.rows few
