use Rattle.std.proofs.Common.{◌∙◌, ap, sym}
use Rattle.iofd_words.specs.Attachments.{is_attached_to}
use Rattle.iofd_words.specs.Files.{device_of}
use Rattle.iofd_words.specs.Ranges.{meets_some}
use Rattle.iofd_words.specs.Usable.{reserved_of}
use Rattle.journal_audit_world.proofs.RowByRow.{any_here, any_none, any_on, any_under, none_under}
use Rattle.journal_audit_events.proofs.usable.keeps_of.Goals as goal

pub returns-then-not-is_attached_to : goal.returns-then-not-is_attached_to
returns-then-not-is_attached_to g c =
    none_under (is_attached_to c.args.objects.now c.args.file c.args.ioas c.args.attachment)
    (meets_some (reserved_of (device_of c.args.config.now c.args.attachment.device))) c.args.ranges.now
    (sym c.is_attached_to.ensures ∙ c.if-not-is_attached_to.true)

pub loop-range-init : goal.loop-range-init
loop-range-init g c =
    any_under (is_attached_to c.args.objects.now c.args.file c.args.ioas c.args.attachment)
    (meets_some (reserved_of (device_of c.args.config.now c.args.attachment.device))) c.args.ranges.now
    (sym c.is_attached_to.ensures ∙ c.if-not-is_attached_to.false)

pub loop-range-preserved : goal.loop-range-preserved
loop-range-preserved g c =
    any_on (meets_some (reserved_of (device_of c.args.config.now c.args.attachment.device))) c.args.ranges.now
    c.loop-range.range-index c.range-item.result _ _ c.loop-range-test.true (c.is_kept.ensures
    ∙ ap (meets_some (reserved_of (device_of c.args.config.now c.args.attachment.device))) c.range-item.is)
    c.if-is_kept.false c.loop-range.invariant

pub returns-then-is_kept : goal.returns-then-is_kept
returns-then-is_kept g c =
    any_here (meets_some (reserved_of (device_of c.args.config.now c.args.attachment.device))) c.args.ranges.now
    c.loop-range.range-index c.range-item.result _ _ c.loop-range-test.true (c.is_kept.ensures
    ∙ ap (meets_some (reserved_of (device_of c.args.config.now c.args.attachment.device))) c.range-item.is)
    c.if-is_kept.true c.loop-range.invariant

pub returns : goal.returns
returns g c =
    any_none (meets_some (reserved_of (device_of c.args.config.now c.args.attachment.device))) c.args.ranges.now
    c.loop-range.range-index _ c.loop-range-test.false c.loop-range.invariant
