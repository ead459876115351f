use Rattle.std.proofs.Common.{◌∙◌, ap}
use Rattle.journal_audit_page_tables.specs.Unusable.{meets_unusable}
use Rattle.journal_audit_world.proofs.RowByRow.{any_here, any_none, any_on}
use Rattle.journal_audit_page_tables.proofs.narrowing.some_outside.Goals as goal

pub loop-range-preserved : goal.loop-range-preserved
loop-range-preserved g c =
    any_on (meets_unusable c.args.config.now c.args.unusable.now) c.args.ranges.now c.loop-range.range-index
    c.range-item.result _ _ c.loop-range-test.true (c.meets.ensures ∙ ap
    (meets_unusable c.args.config.now c.args.unusable.now) c.range-item.is) c.if-meets.false c.loop-range.invariant

pub returns-then-meets : goal.returns-then-meets
returns-then-meets g c =
    any_here (meets_unusable c.args.config.now c.args.unusable.now) c.args.ranges.now c.loop-range.range-index
    c.range-item.result _ _ c.loop-range-test.true (c.meets.ensures ∙ ap
    (meets_unusable c.args.config.now c.args.unusable.now) c.range-item.is) c.if-meets.true c.loop-range.invariant

pub returns : goal.returns
returns g c =
    any_none (meets_unusable c.args.config.now c.args.unusable.now) c.args.ranges.now c.loop-range.range-index _
    c.loop-range-test.false c.loop-range.invariant
