use Rattle.std.proofs.Common.{◌==◌, refl}
use Rattle.std.proofs.lemmas.Bool.{eq-eqb, ne_eqb}
use Rattle.journal_audit_world.proofs.RowByRow.{any_here, any_none, any_on}
use Rattle.journal_audit_world.proofs.frames.has_table.Goals as goal

pub loop-table-preserved : goal.loop-table-preserved
loop-table-preserved c =
    any_on (λ table. table.frame.0 == c.args.frame) c.args.tables.now c.loop-table.table-index _ _ _
    c.loop-table-test.true refl (ne_eqb _ _ c.if-table-frame.false) c.loop-table.invariant

pub returns-then-table-frame : goal.returns-then-table-frame
returns-then-table-frame c =
    any_here (λ table. table.frame.0 == c.args.frame) c.args.tables.now c.loop-table.table-index _ _ _
    c.loop-table-test.true refl (eq-eqb _ _ c.if-table-frame.true) c.loop-table.invariant

pub returns : goal.returns
returns c =
    any_none (λ table. table.frame.0 == c.args.frame) c.args.tables.now c.loop-table.table-index _
    c.loop-table-test.false c.loop-table.invariant
