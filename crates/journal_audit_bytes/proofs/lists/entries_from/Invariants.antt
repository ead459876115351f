use Rattle.std.proofs.Common.{◌≡◌, ◌-◌, ◌∷◌, []}
use Rattle.std.specs.Int.{w64}
use Rattle.journal_audit_bytes.specs.Reading.{elements_at, pairs}
use Rattle.journal_audit_bytes.proofs.Elements.{with_front}
use Rattle.journal_audit_bytes.proofs.lists.entries_from.Given as goal

-- those so far, and those still to be read, are all
abbrev pub invariant-loop : goal.invariant-loop
invariant-loop g l =
    with_front (pairs l.ranges.items) (elements_at (l.count - l.counter) (w64 ∷ w64 ∷ []) l.rest)
    ≡ elements_at l.count (w64 ∷ w64 ∷ []) l.bytes
