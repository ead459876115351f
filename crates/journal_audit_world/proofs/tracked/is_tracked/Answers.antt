use Rattle.std.proofs.Common.{◌∙◌, ap}
use Rattle.iofd_words.specs.Dirty.{is_tracked_as}
use Rattle.journal_audit_world.proofs.RowByRow.{any_here, any_none, any_on}
use Rattle.journal_audit_world.proofs.tracked.is_tracked.Goals as goal

pub loop-row-preserved : goal.loop-row-preserved
loop-row-preserved g c =
    any_on (is_tracked_as c.args.file c.args.hwpt) c.args.rows.now c.loop-row.row-index c.row-item.result _ _
    c.loop-row-test.true (c.is_of.ensures ∙ ap (is_tracked_as c.args.file c.args.hwpt) c.row-item.is)
    c.if-is_of.false c.loop-row.invariant

pub returns-then-is_of : goal.returns-then-is_of
returns-then-is_of g c =
    any_here (is_tracked_as c.args.file c.args.hwpt) c.args.rows.now c.loop-row.row-index c.row-item.result _ _
    c.loop-row-test.true (c.is_of.ensures ∙ ap (is_tracked_as c.args.file c.args.hwpt) c.row-item.is)
    c.if-is_of.true c.loop-row.invariant

pub returns : goal.returns
returns g c =
    any_none (is_tracked_as c.args.file c.args.hwpt) c.args.rows.now c.loop-row.row-index _ c.loop-row-test.false
    c.loop-row.invariant
