use Rattle.std.proofs.Common.{◌≡◌, ◌≤◌, subst, List, true, arith}
use Rattle.std.specs.List.{list_all}
use Rattle.held_pins.specs.Held.{holder_of, pins_of}
use Rattle.held_pins.specs.Held.Tally.{OfHolder}
use Rattle.held_pins.specs.HeldPins.{count_of, is_whole}
use Rattle.held_pins.specs.declared.pin.HeldPin.{HeldPin}
use Rattle.held_pins.proofs.Lists.{all_pass}
use Rattle.held_pins.proofs.held_pins.HeldPins.pins_told.Goals as goal

pub returns-clause-whole : goal.returns-clause-whole
returns-clause-whole g c =
    subst (λ (pins : List HeldPin). list_all is_whole pins ≡ true) c.self.view_is
    (all_pass is_whole (pins_of c.self.inside.spans) c.self.invariant.whole)

pub returns-clause-few : goal.returns-clause-few
returns-clause-few g c file access =
    let what = OfHolder (holder_of file access) in
    let few : count_of (pins_of c.self.inside.spans) file access ≤ 65535 =
    omega (arith, c.self.invariant.tallied what, c.self.invariant.few (holder_of file access)) in
    subst (λ (pins : List HeldPin). count_of pins file access ≤ 65535) c.self.view_is few
