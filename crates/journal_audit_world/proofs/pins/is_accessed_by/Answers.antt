use Rattle.std.proofs.Common.{◌&&◌, ◌==◌, ◌∙◌, ap}
use Rattle.iofd_words.specs.Pins.{covers_page}
use Rattle.journal_audit_world.proofs.RowByRow.{any_here, any_none, any_on}
use Rattle.journal_audit_world.proofs.pins.is_accessed_by.Goals as goal

pub loop-area-preserved : goal.loop-area-preserved
loop-area-preserved c =
    any_on (λ area. area.memory == c.args.memory && covers_page c.args.objects.now c.args.index c.args.pin.now area)
    c.args.areas.now c.loop-area.area-index c.area-item.result _ _ c.loop-area-test.true (c.covers_in.ensures ∙ ap
    (λ area. area.memory == c.args.memory && covers_page c.args.objects.now c.args.index c.args.pin.now area)
    c.area-item.is) c.if-covers_in.false c.loop-area.invariant

pub returns-then-covers_in : goal.returns-then-covers_in
returns-then-covers_in c =
    any_here (λ area. area.memory == c.args.memory && covers_page c.args.objects.now c.args.index c.args.pin.now
    area) c.args.areas.now c.loop-area.area-index c.area-item.result _ _ c.loop-area-test.true (c.covers_in.ensures
    ∙ ap (λ area. area.memory == c.args.memory && covers_page c.args.objects.now c.args.index c.args.pin.now area)
    c.area-item.is) c.if-covers_in.true c.loop-area.invariant

pub returns : goal.returns
returns c =
    any_none (λ area. area.memory == c.args.memory && covers_page c.args.objects.now c.args.index c.args.pin.now
    area) c.args.areas.now c.loop-area.area-index _ c.loop-area-test.false c.loop-area.invariant
