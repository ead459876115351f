use Rattle.std.proofs.Common.{◌≡◌, drop}
use Rattle.std.specs.List.{list_any}
use Rattle.iofd_words.specs.Pins.{is_equal}
use Rattle.iofd_words.specs.Accesses.{pin_of}
use Rattle.journal_audit_world.proofs.access_pins.is_held.Given as goal

abbrev pub invariant-loop-pin : goal.invariant-loop-pin
invariant-loop-pin l =
    list_any (is_equal (pin_of l.file l.access l.request)) (drop l.pin-index l.pins)
    ≡ list_any (is_equal (pin_of l.file l.access l.request)) l.pins
