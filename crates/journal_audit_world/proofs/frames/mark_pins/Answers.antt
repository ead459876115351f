use Rattle.std.proofs.Common.{arith}
use Rattle.iofd_words.specs.declared.rows.Pin.{Pin}
use Rattle.journal_audit_world.proofs.Marks.{goes_on, is_done}
use Rattle.journal_audit_world.proofs.frames.mark_pins.Goals as goal

pub loop-pin-preserved : goal.loop-pin-preserved
loop-pin-preserved c =
    λ f within. goes_on (λ (row : Pin). row.frame.0) c.loop-pin.reached c.mark.new.reached c.args.pins.now
    c.loop-pin.pin-index _ f _ c.loop-pin-test.true (c.mark.ensures f (omega (arith, within)))
    (c.loop-pin.invariant f within)

pub returns : goal.returns
returns c =
    λ f within. is_done (λ (row : Pin). row.frame.0) c.loop-pin.reached c.args.pins.now
    c.loop-pin.pin-index f _ c.loop-pin-test.false (c.loop-pin.invariant f within)
