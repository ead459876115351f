use Rattle.std.proofs.Common.{◌+◌, ◌||◌, ◌∙◌, ap, not}
use Rattle.iofd_words.specs.Span.{holds}
use Rattle.iofd_words.specs.Ranges.{in_spans}
use Rattle.journal_audit_world.proofs.RowByRow.{all_but, all_done, all_on}
use Rattle.journal_audit.proofs.starts.all_go_on.Goals as goal

pub loop-range-preserved : goal.loop-range-preserved
loop-range-preserved c =
    all_on (λ one. not (holds c.args.span (one.last + 1)) || in_spans c.args.ranges.now (one.last + 1))
    c.args.ranges.now c.loop-range.range-index c.range-item.result _ _ c.loop-range-test.true (c.goes_on.ensures
    ∙ ap (λ one. not (holds c.args.span (one.last + 1)) || in_spans c.args.ranges.now (one.last + 1)) c.range-item.is)
    c.if-not-goes_on.false c.loop-range.invariant

pub returns-then-not-goes_on : goal.returns-then-not-goes_on
returns-then-not-goes_on c =
    all_but (λ one. not (holds c.args.span (one.last + 1)) || in_spans c.args.ranges.now (one.last + 1))
    c.args.ranges.now c.loop-range.range-index c.range-item.result _ _ c.loop-range-test.true (c.goes_on.ensures
    ∙ ap (λ one. not (holds c.args.span (one.last + 1)) || in_spans c.args.ranges.now (one.last + 1)) c.range-item.is)
    c.if-not-goes_on.true c.loop-range.invariant

pub returns : goal.returns
returns c =
    all_done (λ one. not (holds c.args.span (one.last + 1)) || in_spans c.args.ranges.now (one.last + 1))
    c.args.ranges.now c.loop-range.range-index _ c.loop-range-test.false c.loop-range.invariant
