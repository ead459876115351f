use Rattle.iofd_rows.specs.Reached.{ends_in}
use Rattle.std.specs.List.{list_any}
use Rattle.journal_audit_world.proofs.RowByRow.{any_here, any_none, any_on}
use Rattle.journal_audit_events.proofs.usable.end_beyond.Goals as goal

pub loop-object-preserved : goal.loop-object-preserved
loop-object-preserved c =
    any_on (λ object. list_any (λ range. ends_in c.args.file c.args.ioas range object) c.args.ranges.now)
    c.args.objects.now c.loop-object.object-index _ _ _ c.loop-object-test.true c.ends_in.ensures c.if-ends_in.false
    c.loop-object.invariant

pub returns-then-ends_in : goal.returns-then-ends_in
returns-then-ends_in c =
    any_here (λ object. list_any (λ range. ends_in c.args.file c.args.ioas range object) c.args.ranges.now)
    c.args.objects.now c.loop-object.object-index _ _ _ c.loop-object-test.true c.ends_in.ensures c.if-ends_in.true
    c.loop-object.invariant

pub returns : goal.returns
returns c =
    any_none (λ object. list_any (λ range. ends_in c.args.file c.args.ioas range object) c.args.ranges.now)
    c.args.objects.now c.loop-object.object-index _ c.loop-object-test.false c.loop-object.invariant
