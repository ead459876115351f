use Rattle.journal_audit_page_tables.proofs.Joined.{joined_after}
use Rattle.journal_audit_page_tables.proofs.Told.{if_ok}
use Rattle.journal_audit_page_tables.proofs.attach.attach_to_space.Goals as goal

pub returns : goal.returns
returns g c =
    if_ok c.join.result _ _
    (λ done is. joined_after c.args.world.now _ c.make_automatic.new.world c.join.new.world c.args.device c.args.file
    c.args.id is c.in_ok-make_automatic.ensures)
    c.join.ensures
