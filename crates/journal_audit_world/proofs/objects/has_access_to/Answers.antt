use Rattle.std.proofs.Common.{◌&&◌, ◌==◌}
use Rattle.iofd_words.specs.Objects.{is_access_to}
use Rattle.journal_audit_world.proofs.RowByRow.{any_here, any_none, any_on}
use Rattle.journal_audit_world.proofs.objects.has_access_to.Goals as goal

pub loop-object-preserved : goal.loop-object-preserved
loop-object-preserved c =
    any_on (λ object. object.file.0 == c.args.file.0 && is_access_to c.args.ioas object.kind) c.args.objects.now
    c.loop-object.object-index _ _ _ c.loop-object-test.true c.is_access_of.ensures c.if-is_access_of.false
    c.loop-object.invariant

pub returns-then-is_access_of : goal.returns-then-is_access_of
returns-then-is_access_of c =
    any_here (λ object. object.file.0 == c.args.file.0 && is_access_to c.args.ioas object.kind) c.args.objects.now
    c.loop-object.object-index _ _ _ c.loop-object-test.true c.is_access_of.ensures c.if-is_access_of.true
    c.loop-object.invariant

pub returns : goal.returns
returns c =
    any_none (λ object. object.file.0 == c.args.file.0 && is_access_to c.args.ioas object.kind) c.args.objects.now
    c.loop-object.object-index _ c.loop-object-test.false c.loop-object.invariant
