use Rattle.std.proofs.Common.{◌&&◌, ◌==◌}
use Rattle.journal_audit_world.proofs.RowByRow.{any_here, any_none, any_on}
use Rattle.journal_audit_world.proofs.attachments.has_device_on.Goals as goal

pub loop-attachment-preserved : goal.loop-attachment-preserved
loop-attachment-preserved c =
    any_on (λ a. a.file.0 == c.args.file.0 && a.hwpt.0 == c.args.hwpt.0) c.args.attachments.now
    c.loop-attachment.attachment-index _ _ _ c.loop-attachment-test.true c.is_on.ensures c.if-is_on.false
    c.loop-attachment.invariant

pub returns-then-is_on : goal.returns-then-is_on
returns-then-is_on c =
    any_here (λ a. a.file.0 == c.args.file.0 && a.hwpt.0 == c.args.hwpt.0) c.args.attachments.now
    c.loop-attachment.attachment-index _ _ _ c.loop-attachment-test.true c.is_on.ensures c.if-is_on.true
    c.loop-attachment.invariant

pub returns : goal.returns
returns c =
    any_none (λ a. a.file.0 == c.args.file.0 && a.hwpt.0 == c.args.hwpt.0) c.args.attachments.now
    c.loop-attachment.attachment-index _ c.loop-attachment-test.false c.loop-attachment.invariant
