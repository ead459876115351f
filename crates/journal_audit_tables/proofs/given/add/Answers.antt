use Rattle.journal_audit_tables.proofs.Leaving.{asked_added}
use Rattle.journal_audit_tables.proofs.given.add.Goals as goal

pub returns-in_ok-insert : goal.returns-in_ok-insert
returns-in_ok-insert g c =
    asked_added _ _ c.args.frame c.args.is_asked c.if-is_asked.true c.in_ok-insert.ensures.updates.0
