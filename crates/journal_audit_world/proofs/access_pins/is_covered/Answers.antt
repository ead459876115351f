use Rattle.std.proofs.Common.{◌&&◌, ◌∙◌, ap}
use Rattle.iofd_words.specs.Pins.{allows, is_of_access}
use Rattle.iofd_words.specs.Span.{holds}
use Rattle.journal_audit_world.proofs.RowByRow.{any_here, any_none, any_on}
use Rattle.journal_audit_world.proofs.access_pins.is_covered.Goals as goal

pub loop-pin-preserved : goal.loop-pin-preserved
loop-pin-preserved c =
    any_on (λ pin. is_of_access c.args.file c.args.access pin
    && (holds pin.span c.args.address && allows pin.write c.args.kind)) c.args.pins.now c.loop-pin.pin-index
    c.pin-item.result _ _ c.loop-pin-test.true (c.covers.ensures ∙ ap (λ pin. is_of_access c.args.file c.args.access
    pin && (holds pin.span c.args.address && allows pin.write c.args.kind)) c.pin-item.is) c.if-covers.false
    c.loop-pin.invariant

pub returns-then-covers : goal.returns-then-covers
returns-then-covers c =
    any_here (λ pin. is_of_access c.args.file c.args.access pin
    && (holds pin.span c.args.address && allows pin.write c.args.kind)) c.args.pins.now c.loop-pin.pin-index
    c.pin-item.result _ _ c.loop-pin-test.true (c.covers.ensures ∙ ap (λ pin. is_of_access c.args.file c.args.access
    pin && (holds pin.span c.args.address && allows pin.write c.args.kind)) c.pin-item.is) c.if-covers.true
    c.loop-pin.invariant

pub returns : goal.returns
returns c =
    any_none (λ pin. is_of_access c.args.file c.args.access pin
    && (holds pin.span c.args.address && allows pin.write c.args.kind)) c.args.pins.now c.loop-pin.pin-index _
    c.loop-pin-test.false c.loop-pin.invariant
