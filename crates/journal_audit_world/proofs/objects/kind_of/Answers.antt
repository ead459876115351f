use Rattle.std.proofs.Common.{None, Some}
use Rattle.iofd_words.specs.Objects.{is_object}
use Rattle.journal_audit_world.proofs.RowByRow.{first_here, first_none, first_on}
use Rattle.journal_audit_world.proofs.objects.kind_of.Goals as goal

pub loop-object-preserved : goal.loop-object-preserved
loop-object-preserved c =
    first_on (λ o. elim o [ Some object ↦ Some object.kind | None ↦ None ]) (is_object c.args.file c.args.id)
    c.args.objects.now c.loop-object.object-index _ _ _ c.loop-object-test.true c.is_object.ensures
    c.if-is_object.false c.loop-object.invariant

pub returns-then-is_object : goal.returns-then-is_object
returns-then-is_object c =
    first_here (λ o. elim o [ Some object ↦ Some object.kind | None ↦ None ]) (is_object c.args.file c.args.id)
    c.args.objects.now c.loop-object.object-index _ _ _ c.loop-object-test.true c.is_object.ensures
    c.if-is_object.true c.loop-object.invariant

pub returns : goal.returns
returns c =
    first_none (λ o. elim o [ Some object ↦ Some object.kind | None ↦ None ]) (is_object c.args.file c.args.id)
    c.args.objects.now c.loop-object.object-index _ c.loop-object-test.false c.loop-object.invariant
