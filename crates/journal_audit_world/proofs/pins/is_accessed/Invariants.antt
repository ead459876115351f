use Rattle.std.proofs.Common.{◌≡◌, ◌==◌, ◌&&◌, drop}
use Rattle.std.specs.List.{list_any}
use Rattle.iofd_words.specs.Pins.{covers_page}
use Rattle.journal_audit_world.proofs.pins.is_accessed.Given as goal

abbrev pub invariant-loop-pin : goal.invariant-loop-pin
invariant-loop-pin l =
    list_any (λ pin. list_any (λ area. area.memory == l.memory && covers_page l.objects l.index pin area) l.areas)
    (drop l.pin-index l.access_pins)
    ≡ list_any (λ pin. list_any (λ area. area.memory == l.memory && covers_page l.objects l.index pin area) l.areas)
    l.access_pins
