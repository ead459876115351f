use Rattle.std.proofs.Common.{ap, ◌∙◌}
use Rattle.std.specs.Prelude.{nat_lt}
use Rattle.held_pins.specs.Counts.{count_in}
use Rattle.held_pins.specs.Held.{key_cmp, key_of}
use Rattle.held_pins.specs.HeldPins.{is_held}
use Rattle.held_pins.proofs.Pins.{held_pins}
use Rattle.held_pins.proofs.held_pins.HeldPins.holds.Goals as goal

pub returns : goal.returns
returns g c =
    let spans = c.self.inside.spans in
    let pin = c.args.pin in
    ap (λ n. nat_lt 0 n) (c.count.ensures ∙ ap (λ key. count_in key_cmp spans key) c.key_of.ensures.value)
    ∙ held_pins spans (key_of pin) c.self.invariant.positive
    ∙ ap (λ pins. is_held pins pin) c.self.view_is
