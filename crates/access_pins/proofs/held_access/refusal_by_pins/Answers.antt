use Rattle.std.proofs.Common.{◌≡◌, ℕ, Bool, true, false, ◌&&◌, List, refl, sym}
use Rattle.held_pins.specs.HeldPins.{allows, is_covered, is_of}
use Rattle.held_pins.specs.declared.pin.HeldPin.{HeldPin}
use Rattle.iofd_rows.proofs.ListTests.{any_weaker}
use Rattle.iofd_words.specs.Span.{holds}
use Rattle.iofd_words.specs.declared.fault.AccessKind.{AccessKind}
use Rattle.iofd_words.specs.declared.fault.AccessKind.TheVariants as kind
use Rattle.iofd_words.specs.declared.numbers.FileNo.{FileNo}
use Rattle.iofd_words.specs.declared.numbers.ObjId.{ObjId}
use Rattle.access_pins.proofs.held_access.refusal_by_pins.Goals as goal

-- what a pin allows at all it allows to read
reads_too : (pins : List HeldPin) (file : FileNo) (access : ObjId) (address : ℕ) (to : AccessKind)
    → is_covered pins file access address to ≡ true → is_covered pins file access address kind.Read ≡ true
reads_too pins file access address to =
    any_weaker (λ (pin : HeldPin). is_of file access pin && holds pin.span address && allows pin.write to)
    (λ (pin : HeldPin). is_of file access pin && holds pin.span address && true) pins
    (λ pin. any_right (is_of file access pin && holds pin.span address) (allows pin.write to))
  where
    any_right : (a b : Bool) → (a && b) ≡ true → (a && true) ≡ true
    any_right true b is = refl
    any_right false b is = is

pub returns-then-is_covered : goal.returns-then-is_covered
returns-then-is_covered g c =
    let pins = c.args.state.now.access_pins in
    let covered : is_covered pins c.args.file c.args.id c.args.address c.args.kind ≡ true =
    sym c.if-is_covered.ensures in
    rw (reads_too pins c.args.file c.args.id c.args.address c.args.kind covered, covered) refl
