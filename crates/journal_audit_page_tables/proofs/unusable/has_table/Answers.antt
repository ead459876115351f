use Rattle.journal_audit_page_tables.specs.Unusable.{is_table}
use Rattle.journal_audit_world.proofs.RowByRow.{any_here, any_none, any_on}
use Rattle.journal_audit_page_tables.proofs.unusable.has_table.Goals as goal

pub loop-object-preserved : goal.loop-object-preserved
loop-object-preserved c =
    any_on (is_table c.args.file c.args.ioas c.args.width) c.args.objects.now c.loop-object.object-index _ _ _
    c.loop-object-test.true c.is_table.ensures c.if-is_table.false c.loop-object.invariant

pub returns-then-is_table : goal.returns-then-is_table
returns-then-is_table c =
    any_here (is_table c.args.file c.args.ioas c.args.width) c.args.objects.now c.loop-object.object-index _ _ _
    c.loop-object-test.true c.is_table.ensures c.if-is_table.true c.loop-object.invariant

pub returns : goal.returns
returns c =
    any_none (is_table c.args.file c.args.ioas c.args.width) c.args.objects.now c.loop-object.object-index _
    c.loop-object-test.false c.loop-object.invariant
