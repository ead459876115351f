use Rattle.std.proofs.Common.{◌≡◌, ◌==◌, ◌&&◌, drop}
use Rattle.std.specs.List.{list_any}
use Rattle.iofd_words.specs.Pins.{covers_page}
use Rattle.journal_audit_world.proofs.pins.is_accessed_by.Given as goal

abbrev pub invariant-loop-area : goal.invariant-loop-area
invariant-loop-area l =
    list_any (λ area. area.memory == l.memory && covers_page l.objects l.index l.pin area)
    (drop l.area-index l.areas)
    ≡ list_any (λ area. area.memory == l.memory && covers_page l.objects l.index l.pin area) l.areas
