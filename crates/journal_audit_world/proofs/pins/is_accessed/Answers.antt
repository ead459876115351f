use Rattle.std.proofs.Common.{◌&&◌, ◌==◌, ◌∙◌, ap}
use Rattle.iofd_words.specs.Pins.{covers_page}
use Rattle.std.specs.List.{list_any}
use Rattle.journal_audit_world.proofs.RowByRow.{any_here, any_none, any_on}
use Rattle.journal_audit_world.proofs.pins.is_accessed.Goals as goal

pub loop-pin-preserved : goal.loop-pin-preserved
loop-pin-preserved c =
    any_on (λ pin. list_any
    (λ area. area.memory == c.args.memory && covers_page c.args.objects.now c.args.index pin area) c.args.areas.now)
    c.args.access_pins.now c.loop-pin.pin-index c.pin-item.result _ _ c.loop-pin-test.true (c.is_accessed_by.ensures
    ∙ ap (λ pin. list_any
    (λ area. area.memory == c.args.memory && covers_page c.args.objects.now c.args.index pin area) c.args.areas.now)
    c.pin-item.is) c.if-is_accessed_by.false c.loop-pin.invariant

pub returns-then-is_accessed_by : goal.returns-then-is_accessed_by
returns-then-is_accessed_by c =
    any_here (λ pin. list_any
    (λ area. area.memory == c.args.memory && covers_page c.args.objects.now c.args.index pin area) c.args.areas.now)
    c.args.access_pins.now c.loop-pin.pin-index c.pin-item.result _ _ c.loop-pin-test.true (c.is_accessed_by.ensures
    ∙ ap (λ pin. list_any
    (λ area. area.memory == c.args.memory && covers_page c.args.objects.now c.args.index pin area) c.args.areas.now)
    c.pin-item.is) c.if-is_accessed_by.true c.loop-pin.invariant

pub returns : goal.returns
returns c =
    any_none (λ pin. list_any
    (λ area. area.memory == c.args.memory && covers_page c.args.objects.now c.args.index pin area) c.args.areas.now)
    c.args.access_pins.now c.loop-pin.pin-index _ c.loop-pin-test.false c.loop-pin.invariant
