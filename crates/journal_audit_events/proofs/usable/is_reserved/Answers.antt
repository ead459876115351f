use Rattle.std.proofs.Common.{◌∙◌, ap}
use Rattle.iofd_words.specs.Span.{meets}
use Rattle.journal_audit_world.proofs.RowByRow.{any_here, any_none, any_on}
use Rattle.journal_audit_events.proofs.usable.is_reserved.Goals as goal

pub loop-span-preserved : goal.loop-span-preserved
loop-span-preserved c =
    any_on (λ span. meets span c.args.range) c.args.spans.now c.loop-span.span-index c.span-item.result _ _
    c.loop-span-test.true (c.meets_span.ensures ∙ ap (λ span. meets span c.args.range) c.span-item.is)
    c.if-meets_span.false c.loop-span.invariant

pub returns-then-meets_span : goal.returns-then-meets_span
returns-then-meets_span c =
    any_here (λ span. meets span c.args.range) c.args.spans.now c.loop-span.span-index c.span-item.result _ _
    c.loop-span-test.true (c.meets_span.ensures ∙ ap (λ span. meets span c.args.range) c.span-item.is)
    c.if-meets_span.true c.loop-span.invariant

pub returns : goal.returns
returns c =
    any_none (λ span. meets span c.args.range) c.args.spans.now c.loop-span.span-index _ c.loop-span-test.false
    c.loop-span.invariant
