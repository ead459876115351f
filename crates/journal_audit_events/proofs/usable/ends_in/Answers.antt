use Rattle.std.proofs.Common.{◌==◌, ◌&&◌, ◌∙◌, ap, sym}
use Rattle.iofd_words.specs.Objects.{is_hwpt_over}
use Rattle.iofd_words.specs.Ranges.{meets_some}
use Rattle.iofd_words.specs.Usable.{beyond_table}
use Rattle.journal_audit_world.proofs.RowByRow.{any_here, any_none, any_on, any_under, none_under}
use Rattle.journal_audit_events.proofs.usable.ends_in.Goals as goal

pub returns-then-not-is_hwpt_of : goal.returns-then-not-is_hwpt_of
returns-then-not-is_hwpt_of c =
    none_under (c.args.object.file.0 == c.args.file.0 && is_hwpt_over c.args.ioas c.args.object.kind)
    (meets_some (beyond_table c.args.object.kind)) c.args.ranges.now
    (sym c.is_hwpt_of.ensures ∙ c.if-not-is_hwpt_of.true)

pub loop-range-init : goal.loop-range-init
loop-range-init c =
    any_under (c.args.object.file.0 == c.args.file.0 && is_hwpt_over c.args.ioas c.args.object.kind)
    (meets_some (beyond_table c.args.object.kind)) c.args.ranges.now
    (sym c.is_hwpt_of.ensures ∙ c.if-not-is_hwpt_of.false)

pub loop-range-preserved : goal.loop-range-preserved
loop-range-preserved c =
    any_on (meets_some (beyond_table c.args.object.kind)) c.args.ranges.now c.loop-range.range-index
    c.range-item.result _ _ c.loop-range-test.true (c.is_beyond.ensures
    ∙ ap (meets_some (beyond_table c.args.object.kind)) c.range-item.is) c.if-is_beyond.false c.loop-range.invariant

pub returns-then-is_beyond : goal.returns-then-is_beyond
returns-then-is_beyond c =
    any_here (meets_some (beyond_table c.args.object.kind)) c.args.ranges.now c.loop-range.range-index
    c.range-item.result _ _ c.loop-range-test.true (c.is_beyond.ensures
    ∙ ap (meets_some (beyond_table c.args.object.kind)) c.range-item.is) c.if-is_beyond.true c.loop-range.invariant

pub returns : goal.returns
returns c =
    any_none (meets_some (beyond_table c.args.object.kind)) c.args.ranges.now c.loop-range.range-index _
    c.loop-range-test.false c.loop-range.invariant
