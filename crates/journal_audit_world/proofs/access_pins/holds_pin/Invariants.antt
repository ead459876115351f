use Rattle.std.proofs.Common.{◌≡◌, drop}
use Rattle.std.specs.List.{list_any}
use Rattle.iofd_words.specs.Pins.{is_of_access}
use Rattle.journal_audit_world.proofs.access_pins.holds_pin.Given as goal

abbrev pub invariant-loop-pin : goal.invariant-loop-pin
invariant-loop-pin l =
    list_any (is_of_access l.file l.access) (drop l.pin-index l.pins)
    ≡ list_any (is_of_access l.file l.access) l.pins
