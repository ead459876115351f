use Rattle.std.proofs.Common.{ap, ◌∙◌}
use Rattle.held_pins.specs.Counts.{count_in}
use Rattle.held_pins.specs.Held.{page_cmp, pins_of}
use Rattle.held_pins.specs.Held.Tally.{Pinned}
use Rattle.held_pins.specs.HeldPins.{are_met}
use Rattle.held_pins.specs.declared.pin.HeldPin.{HeldPin}
use Rattle.held_pins.proofs.Asked.{met}
use Rattle.held_pins.proofs.held_pins.HeldPins.meets.Goals as goal

pub returns : goal.returns
returns g c =
    let held = c.self.inside in
    let told = c.reaches.ensures in
    met (λ (pin : HeldPin). pin.ioas) (λ (pin : HeldPin). pin.access) (count_in page_cmp held.counts.pages)
    (pins_of held.spans) c.self.invariant.whole (λ key. c.self.invariant.tallied (Pinned key)) c.args.file
    c.args.ioas c.args.span told.ordered c.reaches.result told.some told.none
    ∙ ap (λ pins. are_met pins c.args.file c.args.ioas c.args.span) c.self.view_is
