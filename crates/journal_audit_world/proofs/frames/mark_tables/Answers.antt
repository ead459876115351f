use Rattle.std.proofs.Common.{arith}
use Rattle.iofd_words.specs.declared.rows.TableFrame.{TableFrame}
use Rattle.journal_audit_world.proofs.Marks.{goes_on, is_done}
use Rattle.journal_audit_world.proofs.frames.mark_tables.Goals as goal

pub loop-table-preserved : goal.loop-table-preserved
loop-table-preserved c =
    λ f within. goes_on (λ (row : TableFrame). row.frame.0) c.loop-table.reached c.mark.new.reached c.args.tables.now
    c.loop-table.table-index _ f _ c.loop-table-test.true (c.mark.ensures f (omega (arith, within)))
    (c.loop-table.invariant f within)

pub returns : goal.returns
returns c =
    λ f within. is_done (λ (row : TableFrame). row.frame.0) c.loop-table.reached c.args.tables.now
    c.loop-table.table-index f _ c.loop-table-test.false (c.loop-table.invariant f within)
