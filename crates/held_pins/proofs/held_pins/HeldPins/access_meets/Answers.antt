use Rattle.std.proofs.Common.{ap, ◌∙◌}
use Rattle.held_pins.specs.Held.{count_exchanged, pins_of}
use Rattle.held_pins.specs.Held.Tally.{Pinned}
use Rattle.held_pins.specs.HeldPins.{are_own_met}
use Rattle.held_pins.specs.declared.pin.HeldPin.{HeldPin}
use Rattle.held_pins.proofs.Asked.{access_over, met}
use Rattle.held_pins.proofs.held_pins.HeldPins.access_meets.Goals as goal

pub returns : goal.returns
returns g c =
    let held = c.self.inside in
    let told = c.access_reaches.ensures in
    let pins = pins_of held.spans in
    let over = access_over pins held.counts.pages (λ key. c.self.invariant.tallied (Pinned key)) in
    met (λ (pin : HeldPin). pin.access) (λ (pin : HeldPin). pin.ioas) (count_exchanged held.counts.pages) pins
    c.self.invariant.whole over c.args.file c.args.access c.args.span told.ordered c.access_reaches.result
    told.some told.none
    ∙ ap (λ pins. are_own_met pins c.args.file c.args.access c.args.span) c.self.view_is
