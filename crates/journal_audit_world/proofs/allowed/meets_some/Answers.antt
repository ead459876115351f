use Rattle.std.proofs.Common.{◌∙◌, ap}
use Rattle.iofd_words.specs.Span.{meets}
use Rattle.journal_audit_world.proofs.RowByRow.{any_here, any_none, any_on}
use Rattle.journal_audit_world.proofs.allowed.meets_some.Goals as goal

pub loop-one-preserved : goal.loop-one-preserved
loop-one-preserved c =
    any_on (λ one. meets one c.args.range) c.args.ranges.now c.loop-one.one-index c.one-item.result _ _
    c.loop-one-test.true (c.meets.ensures ∙ ap (λ one. meets one c.args.range) c.one-item.is) c.if-meets.false
    c.loop-one.invariant

pub returns-then-meets : goal.returns-then-meets
returns-then-meets c =
    any_here (λ one. meets one c.args.range) c.args.ranges.now c.loop-one.one-index c.one-item.result _ _
    c.loop-one-test.true (c.meets.ensures ∙ ap (λ one. meets one c.args.range) c.one-item.is) c.if-meets.true
    c.loop-one.invariant

pub returns : goal.returns
returns c =
    any_none (λ one. meets one c.args.range) c.args.ranges.now c.loop-one.one-index _ c.loop-one-test.false
    c.loop-one.invariant
