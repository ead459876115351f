use Rattle.std.proofs.Common.{◌&&◌, ◌==◌}
use Rattle.iofd_words.specs.Objects.{is_automatic_over}
use Rattle.journal_audit_world.proofs.RowByRow.{first_here, first_none, first_on}
use Rattle.journal_audit_tables.proofs.coming.automatic_hwpt.Goals as goal

pub loop-object-preserved : goal.loop-object-preserved
loop-object-preserved c =
    first_on (λ o. o) (λ object. object.file.0 == c.args.file.0 && is_automatic_over c.args.ioas c.args.width
    object.kind) c.args.objects.now c.loop-object.object-index _ _ _ c.loop-object-test.true
    c.is_automatic_of.ensures c.if-is_automatic_of.false c.loop-object.invariant

pub returns-then-is_automatic_of : goal.returns-then-is_automatic_of
returns-then-is_automatic_of c =
    first_here (λ o. o) (λ object. object.file.0 == c.args.file.0 && is_automatic_over c.args.ioas c.args.width
    object.kind) c.args.objects.now c.loop-object.object-index _ _ _ c.loop-object-test.true
    c.is_automatic_of.ensures c.if-is_automatic_of.true c.loop-object.invariant

pub returns : goal.returns
returns c =
    first_none (λ o. o) (λ object. object.file.0 == c.args.file.0 && is_automatic_over c.args.ioas c.args.width
    object.kind) c.args.objects.now c.loop-object.object-index _ c.loop-object-test.false c.loop-object.invariant
