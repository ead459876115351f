use Rattle.std.proofs.Common.{◌&&◌, ◌==◌, ◌||◌, sym}
use Rattle.iofd_words.specs.Objects.{is_access, is_bound_device}
use Rattle.iofd_rows.proofs.ListTests.{any-filter}
use Rattle.journal_audit_world.proofs.RowByRow.{any_here, any_none, any_on}
use Rattle.journal_audit_events.proofs.close.has_holder.Goals as goal

pub loop-object-init : goal.loop-object-init
loop-object-init c =
    sym (any-filter (λ object. is_bound_device object.kind || is_access object.kind)
    (λ object. object.file.0 == c.args.file.0) c.args.objects.now)

pub loop-object-preserved : goal.loop-object-preserved
loop-object-preserved c =
    any_on (λ object. object.file.0 == c.args.file.0 && (is_bound_device object.kind || is_access object.kind))
    c.args.objects.now c.loop-object.object-index _ _ _ c.loop-object-test.true c.is_holder.ensures
    c.if-is_holder.false c.loop-object.invariant

pub returns-then-is_holder : goal.returns-then-is_holder
returns-then-is_holder c =
    any_here (λ object. object.file.0 == c.args.file.0 && (is_bound_device object.kind || is_access object.kind))
    c.args.objects.now c.loop-object.object-index _ _ _ c.loop-object-test.true c.is_holder.ensures
    c.if-is_holder.true c.loop-object.invariant

pub returns : goal.returns
returns c =
    any_none (λ object. object.file.0 == c.args.file.0 && (is_bound_device object.kind || is_access object.kind))
    c.args.objects.now c.loop-object.object-index _ c.loop-object-test.false c.loop-object.invariant
