use Rattle.std.proofs.Common.{◌∙◌, ap}
use Rattle.iofd_words.specs.Span.{holds}
use Rattle.journal_audit_world.proofs.RowByRow.{any_here, any_none, any_on}
use Rattle.journal_audit.proofs.starts.in_ranges.Goals as goal

pub loop-range-preserved : goal.loop-range-preserved
loop-range-preserved c =
    any_on (λ range. holds range c.args.address) c.args.ranges.now c.loop-range.range-index c.range-item.result _ _
    c.loop-range-test.true (c.has.ensures ∙ ap (λ range. holds range c.args.address) c.range-item.is) c.if-has.false
    c.loop-range.invariant

pub returns-then-has : goal.returns-then-has
returns-then-has c =
    any_here (λ range. holds range c.args.address) c.args.ranges.now c.loop-range.range-index c.range-item.result _
    _ c.loop-range-test.true (c.has.ensures ∙ ap (λ range. holds range c.args.address) c.range-item.is)
    c.if-has.true c.loop-range.invariant

pub returns : goal.returns
returns c =
    any_none (λ range. holds range c.args.address) c.args.ranges.now c.loop-range.range-index _
    c.loop-range-test.false c.loop-range.invariant
