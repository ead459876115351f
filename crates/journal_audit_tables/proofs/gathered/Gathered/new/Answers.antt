use Rattle.journal_audit_tables.proofs.Adding.{row_known}
use Rattle.journal_audit_tables.proofs.gathered.Gathered.new.Goals as goal

pub loop-table-preserved : goal.loop-table-preserved
loop-table-preserved g c =
    row_known c.args.tables.now c.args.file c.args.hwpt _ _ c.loop-table.table-index _ _ c.loop-table-test.true
    c.is_table_of.ensures c.in_ok-learn.ensures c.loop-table.invariant
