use Rattle.std.proofs.Common.{◌&&◌, ◌==◌}
use Rattle.iofd_words.specs.Objects.{is_hwpt_over}
use Rattle.journal_audit_world.proofs.RowByRow.{any_here, any_none, any_on}
use Rattle.journal_audit_world.proofs.objects.has_hwpt.Goals as goal

pub loop-object-preserved : goal.loop-object-preserved
loop-object-preserved c =
    any_on (λ object. object.file.0 == c.args.file.0 && is_hwpt_over c.args.ioas object.kind) c.args.objects.now
    c.loop-object.object-index _ _ _ c.loop-object-test.true c.is_hwpt_of.ensures c.if-is_hwpt_of.false
    c.loop-object.invariant

pub returns-then-is_hwpt_of : goal.returns-then-is_hwpt_of
returns-then-is_hwpt_of c =
    any_here (λ object. object.file.0 == c.args.file.0 && is_hwpt_over c.args.ioas object.kind) c.args.objects.now
    c.loop-object.object-index _ _ _ c.loop-object-test.true c.is_hwpt_of.ensures c.if-is_hwpt_of.true
    c.loop-object.invariant

pub returns : goal.returns
returns c =
    any_none (λ object. object.file.0 == c.args.file.0 && is_hwpt_over c.args.ioas object.kind) c.args.objects.now
    c.loop-object.object-index _ c.loop-object-test.false c.loop-object.invariant
