use Rattle.std.proofs.Common.{◌≡◌, drop}
use Rattle.std.specs.List.{list_any}
use Rattle.journal_audit_tables.specs.Numbers.{has_number}
use Rattle.journal_audit_tables.proofs.frames.have_pin.Given as goal

abbrev pub invariant-loop-pin : goal.invariant-loop-pin
invariant-loop-pin g l =
    list_any (λ pin. has_number l.set.keys pin.frame.0) (drop l.pin-index l.pins)
    ≡ list_any (λ pin. has_number l.set.keys pin.frame.0) l.pins
