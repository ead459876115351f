use Rattle.std.proofs.Common.{◌≡◌, ◌+◌, ◌<◌, cond, ap, sym, subst, ◌∙◌, arith}
use Rattle.std.specs.Bool.{IsFalse}
use Rattle.std.specs.List.{count_by}
use Rattle.held_pins.specs.Counts.{WeighsMore, count_in}
use Rattle.held_pins.specs.Held.{key_cmp, key_of, pins_of}
use Rattle.held_pins.specs.HeldPins.{count_of, is_held, is_of}
use Rattle.held_pins.specs.declared.keys.PinKey.{PinKey}
use Rattle.held_pins.proofs.Over.{whole_pin}
use Rattle.held_pins.proofs.Pins.{counted_at_most, not_counted, pins_after}
use Rattle.held_pins.proofs.Results.{from_err, from_ok, on_err}
use Rattle.held_pins.proofs.Runs.{own_holder}
use Rattle.held_pins.proofs.Tied.{not_held, room_left, tied_again, tied_more}
use Rattle.held_pins.proofs.held_pins.HeldPins.pin.Goals as goal

pub add-requires : goal.add-requires
add-requires g c =
    room_left c.self.inside.spans c.self.inside.counts c.args.pin c.self.invariant
    (rw c.self.view_is c.requires.few)

pub returns-in_err-add-clause-full : goal.returns-in_err-add-clause-full
returns-in_err-add-clause-full g c =
    let pin = c.args.pin in
    on_err c.from_residual.result (IsFalse (is_held c.args.self.now pin))
    (sym (ap (λ pins. is_held pins pin) c.self.view_is)
    ∙ not_held c.self.inside.spans c.self.inside.counts pin c.self.invariant c.in_err-add.ensures.full)

pub add-requires-2 : goal.add-requires-2
add-requires-2 g c =
    let spans = c.self.inside.spans in
    let pin = c.args.pin in
    let few : count_of (pins_of spans) pin.file pin.access < 65535 = rw c.self.view_is c.requires.few in
    let most = counted_at_most (is_of pin.file pin.access) spans (key_of pin) (own_holder pin) in
    subst (λ (key : PinKey). count_in key_cmp spans key < 65535) (sym c.key_of.ensures.value) (omega (arith, few, most))

pub invariant_of-self-then-is_err : goal.invariant_of-self-then-is_err
invariant_of-self-then-is_err g c =
    let same = from_err c.add-2.result (c.add-2.new.self ≡ c.self.inside.spans)
    (sym c.is_err.ensures.value ∙ c.if-is_err.true) c.add-2.ensures.err in
    tied_again c.self.inside.spans c.add-2.new.self c.self.inside.counts c.add.new.self c.remove.new.self c.args.pin
    same c.self.invariant c.in_ok-add.ensures.more c.remove.ensures

pub returns-then-is_err-clause-full : goal.returns-then-is_err-clause-full
returns-then-is_err-clause-full g c =
    let spans = c.self.inside.spans in
    let pin = c.args.pin in
    let none = from_err c.add-2.result (count_in key_cmp spans c.key_of.result ≡ 0)
    (sym c.is_err.ensures.value ∙ c.if-is_err.true) c.add-2.ensures.full in
    sym (ap (λ pins. is_held pins pin) c.self.view_is)
    ∙ not_counted spans pin c.self.invariant.positive
    (sym (ap (λ key. count_in key_cmp spans key) c.key_of.ensures.value) ∙ none)

pub invariant_of-self-else-is_err : goal.invariant_of-self-else-is_err
invariant_of-self-else-is_err g c =
    let held = c.self.inside in
    let pin = c.args.pin in
    let room = room_left held.spans held.counts pin c.self.invariant (rw c.self.view_is c.requires.few) in
    let heavier = from_ok c.add-2.result (WeighsMore key_cmp held.spans c.add-2.new.self c.key_of.result)
    (sym c.is_err.ensures.value ∙ c.if-is_err.false) c.add-2.ensures.weights in
    tied_more held.spans c.add-2.new.self held.counts c.add.new.self pin c.self.invariant room
    (whole_pin pin c.requires.whole c.key_of.ensures.ordered) c.add-2.ensures.positive
    (pins_after held.spans c.add-2.new.self c.key_of.result pin c.key_of.ensures.value heavier) c.in_ok-add.ensures.more

pub returns-clause-more : goal.returns-clause-more
returns-clause-more g c test =
    let spans = c.self.inside.spans in
    let heavier = from_ok c.add-2.result (WeighsMore key_cmp spans c.add-2.new.self c.key_of.result)
    (sym c.is_err.ensures.value ∙ c.if-is_err.false) c.add-2.ensures.weights in
    pins_after spans c.add-2.new.self c.key_of.result c.args.pin c.key_of.ensures.value heavier test
    ∙ ap (λ pins. count_by test pins + cond (test c.args.pin) 1 0) c.self.view_is
