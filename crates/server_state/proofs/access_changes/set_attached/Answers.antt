use Rattle.server_state.proofs.AccessesHeld.{attachment_set, no_attachment}
use Rattle.server_state.proofs.access_changes.set_attached.Goals as goal

pub returns-in-Ok : goal.returns-in-Ok
returns-in-Ok g c = attachment_set c.args.table.now c.args.file c.args.id c.args.attached c.in-Ok.held.now
    c.set_held.new.held c.in-Ok.ensures.ok c.set_held.ensures

pub returns-in-Err : goal.returns-in-Err
returns-in-Err g c = λ orderly has.
    absurd (no_attachment c.args.table.now c.args.file c.args.id c.in-Err.ensures.refused.0 has)
