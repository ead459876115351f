use Rattle.std.proofs.Common.{◌∙◌, ap}
use Rattle.iofd_words.specs.Pins.{is_of_access}
use Rattle.journal_audit_world.proofs.RowByRow.{any_here, any_none, any_on}
use Rattle.journal_audit_world.proofs.access_pins.holds_pin.Goals as goal

pub loop-pin-preserved : goal.loop-pin-preserved
loop-pin-preserved c =
    any_on (is_of_access c.args.file c.args.access) c.args.pins.now c.loop-pin.pin-index c.pin-item.result _ _
    c.loop-pin-test.true (c.is_of_access.ensures ∙ ap (is_of_access c.args.file c.args.access) c.pin-item.is)
    c.if-is_of_access.false c.loop-pin.invariant

pub returns-then-is_of_access : goal.returns-then-is_of_access
returns-then-is_of_access c =
    any_here (is_of_access c.args.file c.args.access) c.args.pins.now c.loop-pin.pin-index c.pin-item.result _ _
    c.loop-pin-test.true (c.is_of_access.ensures ∙ ap (is_of_access c.args.file c.args.access) c.pin-item.is)
    c.if-is_of_access.true c.loop-pin.invariant

pub returns : goal.returns
returns c =
    any_none (is_of_access c.args.file c.args.access) c.args.pins.now c.loop-pin.pin-index _ c.loop-pin-test.false
    c.loop-pin.invariant
