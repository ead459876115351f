use Rattle.std.proofs.Common.{◌∙◌, ap}
use Rattle.iofd_words.specs.Pins.{is_equal}
use Rattle.iofd_words.specs.Accesses.{pin_of}
use Rattle.journal_audit_world.proofs.RowByRow.{any_here, any_none, any_on}
use Rattle.journal_audit_world.proofs.access_pins.is_held.Goals as goal

pub loop-pin-preserved : goal.loop-pin-preserved
loop-pin-preserved c =
    any_on (is_equal (pin_of c.args.file c.args.access c.args.request)) c.args.pins.now c.loop-pin.pin-index
    c.pin-item.result _ _ c.loop-pin-test.true (c.is_asked.ensures ∙ ap
    (is_equal (pin_of c.args.file c.args.access c.args.request)) c.pin-item.is) c.if-is_asked.false
    c.loop-pin.invariant

pub returns-then-is_asked : goal.returns-then-is_asked
returns-then-is_asked c =
    any_here (is_equal (pin_of c.args.file c.args.access c.args.request)) c.args.pins.now c.loop-pin.pin-index
    c.pin-item.result _ _ c.loop-pin-test.true (c.is_asked.ensures ∙ ap
    (is_equal (pin_of c.args.file c.args.access c.args.request)) c.pin-item.is) c.if-is_asked.true
    c.loop-pin.invariant

pub returns : goal.returns
returns c =
    any_none (is_equal (pin_of c.args.file c.args.access c.args.request)) c.args.pins.now c.loop-pin.pin-index _
    c.loop-pin-test.false c.loop-pin.invariant
