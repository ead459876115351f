use Rattle.std.proofs.Common.{◌≡◌, ◌==◌, drop}
use Rattle.std.specs.List.{list_any}
use Rattle.journal_audit_world.proofs.frames.has_pin.Given as goal

abbrev pub invariant-loop-pin : goal.invariant-loop-pin
invariant-loop-pin l =
    list_any (λ pin. pin.frame.0 == l.frame) (drop l.pin-index l.pins)
    ≡ list_any (λ pin. pin.frame.0 == l.frame) l.pins
