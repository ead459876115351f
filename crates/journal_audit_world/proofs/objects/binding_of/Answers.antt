use Rattle.iofd_words.specs.Objects.{is_bound_as}
use Rattle.journal_audit_world.proofs.RowByRow.{first_here, first_none, first_on}
use Rattle.journal_audit_world.proofs.objects.binding_of.Goals as goal

pub loop-object-preserved : goal.loop-object-preserved
loop-object-preserved c =
    first_on (λ o. o) (λ object. is_bound_as c.args.device object.kind) c.args.objects.now
    c.loop-object.object-index _ _ _ c.loop-object-test.true c.is_bound_as.ensures c.if-is_bound_as.false
    c.loop-object.invariant

pub returns-then-is_bound_as : goal.returns-then-is_bound_as
returns-then-is_bound_as c =
    first_here (λ o. o) (λ object. is_bound_as c.args.device object.kind) c.args.objects.now
    c.loop-object.object-index _ _ _ c.loop-object-test.true c.is_bound_as.ensures c.if-is_bound_as.true
    c.loop-object.invariant

pub returns : goal.returns
returns c =
    first_none (λ o. o) (λ object. is_bound_as c.args.device object.kind) c.args.objects.now
    c.loop-object.object-index _ c.loop-object-test.false c.loop-object.invariant
