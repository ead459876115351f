use Rattle.iofd_rows.specs.Reached.{keeps_of}
use Rattle.std.specs.List.{list_any}
use Rattle.journal_audit_world.proofs.RowByRow.{any_here, any_none, any_on}
use Rattle.journal_audit_events.proofs.usable.are_kept.Goals as goal

pub loop-attachment-preserved : goal.loop-attachment-preserved
loop-attachment-preserved g c =
    any_on (λ a. list_any (λ range. keeps_of c.args.config.now c.args.objects.now c.args.file c.args.ioas range a)
    c.args.ranges.now) c.args.attachments.now c.loop-attachment.attachment-index _ _ _ c.loop-attachment-test.true
    c.keeps_of.ensures c.if-keeps_of.false c.loop-attachment.invariant

pub returns-then-keeps_of : goal.returns-then-keeps_of
returns-then-keeps_of g c =
    any_here (λ a. list_any (λ range. keeps_of c.args.config.now c.args.objects.now c.args.file c.args.ioas range a)
    c.args.ranges.now) c.args.attachments.now c.loop-attachment.attachment-index _ _ _ c.loop-attachment-test.true
    c.keeps_of.ensures c.if-keeps_of.true c.loop-attachment.invariant

pub returns : goal.returns
returns g c =
    any_none (λ a. list_any (λ range. keeps_of c.args.config.now c.args.objects.now c.args.file c.args.ioas range a)
    c.args.ranges.now) c.args.attachments.now c.loop-attachment.attachment-index _ c.loop-attachment-test.false
    c.loop-attachment.invariant
