use Rattle.std.proofs.Common.{◌&&◌, ◌==◌}
use Rattle.journal_audit_world.proofs.RowByRow.{any_here, any_none, any_on}
use Rattle.journal_audit.proofs.source.is_writable.Goals as goal

pub loop-object-preserved : goal.loop-object-preserved
loop-object-preserved c =
    any_on (λ object. object.number == c.args.number && object.writable) c.args.memory.now
    c.loop-object.object-index _ _ _ c.loop-object-test.true c.is_writable_as.ensures c.if-is_writable_as.false
    c.loop-object.invariant

pub returns-then-is_writable_as : goal.returns-then-is_writable_as
returns-then-is_writable_as c =
    any_here (λ object. object.number == c.args.number && object.writable) c.args.memory.now
    c.loop-object.object-index _ _ _ c.loop-object-test.true c.is_writable_as.ensures c.if-is_writable_as.true
    c.loop-object.invariant

pub returns : goal.returns
returns c =
    any_none (λ object. object.number == c.args.number && object.writable) c.args.memory.now
    c.loop-object.object-index _ c.loop-object-test.false c.loop-object.invariant
