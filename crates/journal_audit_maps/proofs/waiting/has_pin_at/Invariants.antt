use Rattle.std.proofs.Common.{◌≡◌, drop}
use Rattle.std.specs.List.{list_any}
use Rattle.journal_audit_maps.specs.Waiting.{is_pin_at}
use Rattle.journal_audit_maps.proofs.waiting.has_pin_at.Given as goal

abbrev pub invariant-loop-pin : goal.invariant-loop-pin
invariant-loop-pin l =
    list_any (is_pin_at l.objects l.file l.ioas l.asked) (drop l.pin-index l.pins)
    ≡ list_any (is_pin_at l.objects l.file l.ioas l.asked) l.pins
