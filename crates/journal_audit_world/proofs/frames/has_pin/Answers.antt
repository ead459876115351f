use Rattle.std.proofs.Common.{◌==◌, refl}
use Rattle.std.proofs.lemmas.Bool.{eq-eqb, ne_eqb}
use Rattle.journal_audit_world.proofs.RowByRow.{any_here, any_none, any_on}
use Rattle.journal_audit_world.proofs.frames.has_pin.Goals as goal

pub loop-pin-preserved : goal.loop-pin-preserved
loop-pin-preserved c =
    any_on (λ pin. pin.frame.0 == c.args.frame) c.args.pins.now c.loop-pin.pin-index _ _ _ c.loop-pin-test.true refl
    (ne_eqb _ _ c.if-pin-frame.false) c.loop-pin.invariant

pub returns-then-pin-frame : goal.returns-then-pin-frame
returns-then-pin-frame c =
    any_here (λ pin. pin.frame.0 == c.args.frame) c.args.pins.now c.loop-pin.pin-index _ _ _ c.loop-pin-test.true
    refl (eq-eqb _ _ c.if-pin-frame.true) c.loop-pin.invariant

pub returns : goal.returns
returns c =
    any_none (λ pin. pin.frame.0 == c.args.frame) c.args.pins.now c.loop-pin.pin-index _ c.loop-pin-test.false
    c.loop-pin.invariant
