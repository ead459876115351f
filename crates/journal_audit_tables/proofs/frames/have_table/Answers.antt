use Rattle.journal_audit_tables.specs.Numbers.{has_number}
use Rattle.journal_audit_world.proofs.RowByRow.{any_here, any_none, any_on}
use Rattle.journal_audit_tables.proofs.frames.have_table.Goals as goal

pub loop-table-preserved : goal.loop-table-preserved
loop-table-preserved g c =
    any_on (λ table. has_number c.args.set.now.keys table.frame.0) c.args.tables.now c.loop-table.table-index _ _ _
    c.loop-table-test.true c.has.ensures c.if-has.false c.loop-table.invariant

pub returns-then-has : goal.returns-then-has
returns-then-has g c =
    any_here (λ table. has_number c.args.set.now.keys table.frame.0) c.args.tables.now c.loop-table.table-index _ _
    _ c.loop-table-test.true c.has.ensures c.if-has.true c.loop-table.invariant

pub returns : goal.returns
returns g c =
    any_none (λ table. has_number c.args.set.now.keys table.frame.0) c.args.tables.now c.loop-table.table-index _
    c.loop-table-test.false c.loop-table.invariant
