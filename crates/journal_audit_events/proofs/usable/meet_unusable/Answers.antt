use Rattle.std.proofs.Common.{◌∙◌, sym}
use Rattle.journal_audit_world.proofs.Swapped.{unusable_by_rows}
use Rattle.journal_audit_events.proofs.usable.meet_unusable.Goals as goal

pub returns : goal.returns
returns g c =
    c.meet_rows.ensures
    ∙ sym (unusable_by_rows c.args.config.now c.args.objects.now c.args.attachments.now c.args.file c.args.ioas
    c.args.ranges.now)
