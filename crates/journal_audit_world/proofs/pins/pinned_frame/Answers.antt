use Rattle.std.proofs.Common.{None, Some}
use Rattle.iofd_words.specs.Pins.{is_page, page_of_pin}
use Rattle.journal_audit_world.proofs.RowByRow.{first_here, first_none, first_on}
use Rattle.journal_audit_world.proofs.pins.pinned_frame.Goals as goal

pub loop-pin-preserved : goal.loop-pin-preserved
loop-pin-preserved c =
    first_on (λ o. elim o [ Some pin ↦ Some pin.frame | None ↦ None ]) (λ pin. is_page (page_of_pin pin)
    (record { memory = c.args.memory; index = c.args.index })) c.args.pins.now c.loop-pin.pin-index _ _ _
    c.loop-pin-test.true c.is_pin_of.ensures c.if-is_pin_of.false c.loop-pin.invariant

pub returns-then-is_pin_of : goal.returns-then-is_pin_of
returns-then-is_pin_of c =
    first_here (λ o. elim o [ Some pin ↦ Some pin.frame | None ↦ None ]) (λ pin. is_page (page_of_pin pin)
    (record { memory = c.args.memory; index = c.args.index })) c.args.pins.now c.loop-pin.pin-index _ _ _
    c.loop-pin-test.true c.is_pin_of.ensures c.if-is_pin_of.true c.loop-pin.invariant

pub returns : goal.returns
returns c =
    first_none (λ o. elim o [ Some pin ↦ Some pin.frame | None ↦ None ]) (λ pin. is_page (page_of_pin pin)
    (record { memory = c.args.memory; index = c.args.index })) c.args.pins.now c.loop-pin.pin-index _
    c.loop-pin-test.false c.loop-pin.invariant
