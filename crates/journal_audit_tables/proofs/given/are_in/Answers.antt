use Rattle.std.proofs.Common.{◌||◌, not}
use Rattle.journal_audit_tables.specs.Numbers.{has_number}
use Rattle.journal_audit_events.specs.Gone.{is_gone}
use Rattle.journal_audit_world.proofs.RowByRow.{all_but, all_done, all_on}
use Rattle.journal_audit_tables.proofs.given.are_in.Goals as goal

pub loop-table-preserved : goal.loop-table-preserved
loop-table-preserved g c =
    all_on (λ table. not (is_gone c.args.gone table) || has_number c.args.set.now.keys table.frame.0)
    c.args.tables.now c.loop-table.table-index _ _ _ c.loop-table-test.true c.is_in.ensures c.if-not-is_in.false
    c.loop-table.invariant

pub returns-then-not-is_in : goal.returns-then-not-is_in
returns-then-not-is_in g c =
    all_but (λ table. not (is_gone c.args.gone table) || has_number c.args.set.now.keys table.frame.0)
    c.args.tables.now c.loop-table.table-index _ _ _ c.loop-table-test.true c.is_in.ensures c.if-not-is_in.true
    c.loop-table.invariant

pub returns : goal.returns
returns g c =
    all_done (λ table. not (is_gone c.args.gone table) || has_number c.args.set.now.keys table.frame.0)
    c.args.tables.now c.loop-table.table-index _ c.loop-table-test.false c.loop-table.invariant
