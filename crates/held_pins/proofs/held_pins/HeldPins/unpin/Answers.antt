use Rattle.std.proofs.Common.{◌<◌, ap, sym, subst, ◌∙◌}
use Rattle.std.specs.List.{count_by}
use Rattle.held_pins.specs.Counts.{count_in}
use Rattle.held_pins.specs.Held.{key_cmp}
use Rattle.held_pins.specs.declared.keys.PinKey.{PinKey}
use Rattle.held_pins.proofs.Pins.{key_counted, pins_after}
use Rattle.held_pins.proofs.Tied.{held_there, tied_less}
use Rattle.held_pins.proofs.held_pins.HeldPins.unpin.Goals as goal

pub remove-requires : goal.remove-requires
remove-requires g c =
    subst (λ (key : PinKey). 0 < count_in key_cmp c.self.inside.spans key) (sym c.key_of.ensures.value)
    (key_counted c.self.inside.spans c.args.pin c.self.invariant.positive (rw c.self.view_is c.requires))

pub remove-requires-2 : goal.remove-requires-2
remove-requires-2 g c =
    held_there c.self.inside.spans c.self.inside.counts c.args.pin c.self.invariant (rw c.self.view_is c.requires)

pub invariant_of-self : goal.invariant_of-self
invariant_of-self g c =
    let spans = c.self.inside.spans in
    tied_less spans c.remove.new.self c.self.inside.counts c.remove-2.new.self c.args.pin c.self.invariant
    c.remove.ensures.positive
    (pins_after c.remove.new.self spans c.key_of.result c.args.pin c.key_of.ensures.value c.remove.ensures.weights)
    c.remove-2.ensures

pub returns : goal.returns
returns g c =
    let spans = c.self.inside.spans in
    record {
      less = λ test. ap (λ pins. count_by test pins) (sym c.self.view_is)
          ∙ pins_after c.remove.new.self spans c.key_of.result c.args.pin c.key_of.ensures.value
          c.remove.ensures.weights test;
    }
