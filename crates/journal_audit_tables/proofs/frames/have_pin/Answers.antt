use Rattle.journal_audit_tables.specs.Numbers.{has_number}
use Rattle.journal_audit_world.proofs.RowByRow.{any_here, any_none, any_on}
use Rattle.journal_audit_tables.proofs.frames.have_pin.Goals as goal

pub loop-pin-preserved : goal.loop-pin-preserved
loop-pin-preserved g c =
    any_on (λ pin. has_number c.args.set.now.keys pin.frame.0) c.args.pins.now c.loop-pin.pin-index _ _ _
    c.loop-pin-test.true c.has.ensures c.if-has.false c.loop-pin.invariant

pub returns-then-has : goal.returns-then-has
returns-then-has g c =
    any_here (λ pin. has_number c.args.set.now.keys pin.frame.0) c.args.pins.now c.loop-pin.pin-index _ _ _
    c.loop-pin-test.true c.has.ensures c.if-has.true c.loop-pin.invariant

pub returns : goal.returns
returns g c =
    any_none (λ pin. has_number c.args.set.now.keys pin.frame.0) c.args.pins.now c.loop-pin.pin-index _
    c.loop-pin-test.false c.loop-pin.invariant
