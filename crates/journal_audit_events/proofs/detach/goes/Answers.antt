use Rattle.std.proofs.Common.{◌&&◌, not}
use Rattle.iofd_words.specs.Objects.{is_automatic, is_object}
use Rattle.journal_audit_world.proofs.RowByRow.{any_here, any_none, any_on}
use Rattle.journal_audit_events.proofs.detach.goes.Goals as goal

pub loop-object-preserved : goal.loop-object-preserved
loop-object-preserved c =
    any_on (λ object. is_object c.args.file c.args.hwpt object && is_automatic object.kind && not c.args.is_used)
    c.args.objects.now c.loop-object.object-index _ _ _ c.loop-object-test.true c.goes_one.ensures
    c.if-goes_one.false c.loop-object.invariant

pub returns-then-goes_one : goal.returns-then-goes_one
returns-then-goes_one c =
    any_here (λ object. is_object c.args.file c.args.hwpt object && is_automatic object.kind && not c.args.is_used)
    c.args.objects.now c.loop-object.object-index _ _ _ c.loop-object-test.true c.goes_one.ensures
    c.if-goes_one.true c.loop-object.invariant

pub returns : goal.returns
returns c =
    any_none (λ object. is_object c.args.file c.args.hwpt object && is_automatic object.kind && not c.args.is_used)
    c.args.objects.now c.loop-object.object-index _ c.loop-object-test.false c.loop-object.invariant
