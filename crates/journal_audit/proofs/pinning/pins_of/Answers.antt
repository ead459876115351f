use Rattle.std.proofs.Common.{◌==◌, filter, refl}
use Rattle.std.proofs.lemmas.Bool.{eq-eqb, ne_eqb}
use Rattle.iofd_words.specs.declared.rows.Pin.{Pin}
use Rattle.journal_audit_world.proofs.Pushed.{none_left, picked_added, picked_passed}
use Rattle.journal_audit.proofs.pinning.pins_of.Goals.{else-pin-number, then-pin-number+in_ok-push}
use Rattle.journal_audit.proofs.pinning.pins_of.Goals as goal

pub loop-pin-preserved : goal.loop-pin-preserved
loop-pin-preserved g c =
    elim c.if-pin-number.branch [
      | then-pin-number+in_ok-push w ↦ picked_added (λ (pin : Pin). pin.memory == c.args.number) c.args.pins.now
          c.loop-pin.pin-index _ c.loop-pin.own.items c.if-pin-number.own.items _ c.loop-pin-test.true
          (eq-eqb _ _ w.if-pin-number.true) (rw w.own-is w.in_ok-push.ensures.items) c.loop-pin.invariant
      | else-pin-number w ↦ picked_passed (λ (pin : Pin). pin.memory == c.args.number) c.args.pins.now
          c.loop-pin.pin-index _ c.loop-pin.own.items c.if-pin-number.own.items _ c.loop-pin-test.true
          (ne_eqb _ _ w.if-pin-number.false) (rw w.own-is refl) c.loop-pin.invariant
    ]

pub returns : goal.returns
returns g c =
    none_left (filter (λ (pin : Pin). pin.memory == c.args.number)) c.args.pins.now c.loop-pin.pin-index
    c.loop-pin.own.items _ refl c.loop-pin-test.false c.loop-pin.invariant
