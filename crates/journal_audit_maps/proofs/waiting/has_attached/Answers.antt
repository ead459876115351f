use Rattle.iofd_words.specs.Attachments.{is_attached_to}
use Rattle.journal_audit_world.proofs.RowByRow.{any_here, any_none, any_on}
use Rattle.journal_audit_maps.proofs.waiting.has_attached.Goals as goal

pub loop-attachment-preserved : goal.loop-attachment-preserved
loop-attachment-preserved c =
    any_on (is_attached_to c.args.objects.now c.args.file c.args.ioas) c.args.attachments.now
    c.loop-attachment.attachment-index _ _ _ c.loop-attachment-test.true c.is_attached_to.ensures
    c.if-is_attached_to.false c.loop-attachment.invariant

pub returns-then-is_attached_to : goal.returns-then-is_attached_to
returns-then-is_attached_to c =
    any_here (is_attached_to c.args.objects.now c.args.file c.args.ioas) c.args.attachments.now
    c.loop-attachment.attachment-index _ _ _ c.loop-attachment-test.true c.is_attached_to.ensures
    c.if-is_attached_to.true c.loop-attachment.invariant

pub returns : goal.returns
returns c =
    any_none (is_attached_to c.args.objects.now c.args.file c.args.ioas) c.args.attachments.now
    c.loop-attachment.attachment-index _ c.loop-attachment-test.false c.loop-attachment.invariant
