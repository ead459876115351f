use Rattle.std.proofs.Common.{◌≡◌, ◌++◌, take, drop}
use Rattle.iofd_words.specs.Accesses.{pin_of}
use Rattle.iofd_words.specs.Pins.{without_pin}
use Rattle.journal_audit_world.proofs.access_pins.place_of.Given as goal

abbrev pub invariant-loop-index : goal.invariant-loop-index
invariant-loop-index l =
    take l.index l.pins ++ without_pin (pin_of l.file l.access l.request) (drop l.index l.pins)
    ≡ without_pin (pin_of l.file l.access l.request) l.pins
