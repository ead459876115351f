use Rattle.journal_audit_page_tables.proofs.Indexed.{none_pinned, pin_known}
use Rattle.journal_audit_page_tables.proofs.page_sets.pinned_pages.Goals as goal

pub loop-pin-init : goal.loop-pin-init
loop-pin-init g c = none_pinned c.args.pins.now _ c.new-set.ensures.empty

pub loop-pin-preserved : goal.loop-pin-preserved
loop-pin-preserved g c =
    pin_known c.args.pins.now _ _ c.loop-pin.pin-index _ c.loop-pin-test.true c.in_ok-insert.ensures.updates.0
    c.loop-pin.invariant
