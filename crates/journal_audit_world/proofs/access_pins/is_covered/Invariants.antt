use Rattle.std.proofs.Common.{◌≡◌, ◌&&◌, drop}
use Rattle.std.specs.List.{list_any}
use Rattle.iofd_words.specs.Pins.{allows, is_of_access}
use Rattle.iofd_words.specs.Span.{holds}
use Rattle.journal_audit_world.proofs.access_pins.is_covered.Given as goal

abbrev pub invariant-loop-pin : goal.invariant-loop-pin
invariant-loop-pin l =
    list_any (λ pin. is_of_access l.file l.access pin && (holds pin.span l.address && allows pin.write l.kind))
    (drop l.pin-index l.pins)
    ≡ list_any (λ pin. is_of_access l.file l.access pin && (holds pin.span l.address && allows pin.write l.kind))
    l.pins
