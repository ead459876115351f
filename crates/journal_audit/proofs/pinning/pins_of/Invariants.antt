use Rattle.std.proofs.Common.{◌≡◌, ◌++◌, ◌==◌, drop, filter}
use Rattle.journal_audit.proofs.pinning.pins_of.Given as goal

abbrev pub invariant-loop-pin : goal.invariant-loop-pin
invariant-loop-pin g l =
    l.own.items ++ filter (λ pin. pin.memory == l.number) (drop l.pin-index l.pins)
    ≡ filter (λ pin. pin.memory == l.number) l.pins
