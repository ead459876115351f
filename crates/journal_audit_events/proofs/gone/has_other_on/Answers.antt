use Rattle.std.proofs.Common.{◌&&◌, ◌==◌, not, sym}
use Rattle.iofd_rows.proofs.ListTests.{any-filter}
use Rattle.journal_audit_world.proofs.RowByRow.{any_here, any_none, any_on}
use Rattle.journal_audit_events.proofs.gone.has_other_on.Goals as goal

pub loop-attachment-init : goal.loop-attachment-init
loop-attachment-init c =
    sym (any-filter (λ a. a.file.0 == c.args.file.0 && a.hwpt.0 == c.args.hwpt.0)
    (λ a. not (a.device.0 == c.args.device.0)) c.args.attachments.now)

pub loop-attachment-preserved : goal.loop-attachment-preserved
loop-attachment-preserved c =
    any_on (λ a. not (a.device.0 == c.args.device.0) && (a.file.0 == c.args.file.0 && a.hwpt.0 == c.args.hwpt.0))
    c.args.attachments.now c.loop-attachment.attachment-index _ _ _ c.loop-attachment-test.true
    c.is_other_on.ensures c.if-is_other_on.false c.loop-attachment.invariant

pub returns-then-is_other_on : goal.returns-then-is_other_on
returns-then-is_other_on c =
    any_here (λ a. not (a.device.0 == c.args.device.0) && (a.file.0 == c.args.file.0 && a.hwpt.0 == c.args.hwpt.0))
    c.args.attachments.now c.loop-attachment.attachment-index _ _ _ c.loop-attachment-test.true
    c.is_other_on.ensures c.if-is_other_on.true c.loop-attachment.invariant

pub returns : goal.returns
returns c =
    any_none (λ a. not (a.device.0 == c.args.device.0) && (a.file.0 == c.args.file.0 && a.hwpt.0 == c.args.hwpt.0))
    c.args.attachments.now c.loop-attachment.attachment-index _ c.loop-attachment-test.false
    c.loop-attachment.invariant
