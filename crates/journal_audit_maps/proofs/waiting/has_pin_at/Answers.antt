use Rattle.std.proofs.Common.{◌∙◌, ap}
use Rattle.journal_audit_maps.specs.Waiting.{is_pin_at}
use Rattle.journal_audit_world.proofs.RowByRow.{any_here, any_none, any_on}
use Rattle.journal_audit_maps.proofs.waiting.has_pin_at.Goals as goal

pub loop-pin-preserved : goal.loop-pin-preserved
loop-pin-preserved c =
    any_on (is_pin_at c.args.objects.now c.args.file c.args.ioas c.args.asked) c.args.pins.now c.loop-pin.pin-index
    c.pin-item.result _ _ c.loop-pin-test.true (c.is_pin_at.ensures ∙ ap
    (is_pin_at c.args.objects.now c.args.file c.args.ioas c.args.asked) c.pin-item.is) c.if-is_pin_at.false
    c.loop-pin.invariant

pub returns-then-is_pin_at : goal.returns-then-is_pin_at
returns-then-is_pin_at c =
    any_here (is_pin_at c.args.objects.now c.args.file c.args.ioas c.args.asked) c.args.pins.now
    c.loop-pin.pin-index c.pin-item.result _ _ c.loop-pin-test.true (c.is_pin_at.ensures ∙ ap
    (is_pin_at c.args.objects.now c.args.file c.args.ioas c.args.asked) c.pin-item.is) c.if-is_pin_at.true
    c.loop-pin.invariant

pub returns : goal.returns
returns c =
    any_none (is_pin_at c.args.objects.now c.args.file c.args.ioas c.args.asked) c.args.pins.now
    c.loop-pin.pin-index _ c.loop-pin-test.false c.loop-pin.invariant
