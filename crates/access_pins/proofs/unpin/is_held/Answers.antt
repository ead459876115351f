use Rattle.std.proofs.Common.{refl, ap, sym, ◌∙◌}
use Rattle.access_pins.proofs.HeldPins.{held_alike, never_held}
use Rattle.iofd_rows.proofs.Bools.{clash}
use Rattle.iofd_words.specs.declared.rows.AccessPin.{AccessPin}
use Rattle.access_pins.proofs.unpin.is_held.Goals as goal

pub returns-in-Some : goal.returns-in-Some
returns-in-Some g c =
    let row = c.in-Some.ensures.row in
    c.holds.ensures
    ∙ sym (held_alike c.args.state.now c.requires.known c.args.file c.args.id c.args.ioas c.args.request
    c.requires.attached c.in-Some.pin (ap (λ (p : AccessPin). p.file) row) (ap (λ (p : AccessPin). p.access) row)
    c.in-Some.ensures.space (ap (λ (p : AccessPin). p.span) row) (ap (λ (p : AccessPin). p.write) row))

pub returns-in-None : goal.returns-in-None
returns-in-None g c =
    sym (never_held c.args.state.now c.requires.known c.args.file c.args.id c.args.ioas c.args.request
    c.requires.attached (λ some sum. clash _ refl (rw c.in-None.is at c.asked_pin.ensures.some some sum)))
