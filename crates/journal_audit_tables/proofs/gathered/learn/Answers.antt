use Rattle.journal_audit_tables.proofs.Adding.{learned}
use Rattle.journal_audit_tables.proofs.gathered.learn.Goals as goal

pub returns-in_ok-insert : goal.returns-in_ok-insert
returns-in_ok-insert g c =
    learned _ _ c.args.table.now c.args.is_asked c.if-is_asked.true c.in_ok-insert.ensures.updates.0
