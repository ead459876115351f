use Rattle.journal_audit_tables.proofs.NeededTables.{above_all}
use Rattle.journal_audit_tables.proofs.idle.is_within.Goals as goal

pub returns-then-table-gt5 : goal.returns-then-table-gt5
returns-then-table-gt5 c =
    above_all c.args.table.now.first.0 c.args.table.now.level c.args.address c.if-table-gt5.true c.ranges.address.fits
