use Rattle.journal_audit_tables.proofs.Adding.{gathered_all}
use Rattle.journal_audit_tables.proofs.missing.missing_in_areas.Goals as goal

pub returns : goal.returns
returns g c =
    gathered_all c.args.tables.now c.args.file c.args.hwpt c.args.width _ c.levels_of.result _ _ _
    c.levels_of.ensures.value c.in_ok-gathered.ensures c.in_ok-add_areas.ensures c.into_found.ensures
