use Rattle.std.proofs.Common.{◌≡◌, ◌-◌}
use Rattle.journal_audit_bytes.specs.HeadReading.{many_at}
use Rattle.journal_audit_bytes.proofs.Many.{with_front}
use Rattle.journal_audit_bytes.proofs.counted.many_at.Given as goal

-- those so far, and those still to be read, are all
abbrev pub invariant-loop : goal.invariant-loop
invariant-loop g l =
    with_front (g.T.Element.at l.version) l.elements.items
    (many_at (g.T.Element.at l.version) (l.count - l.counter) l.rest)
    ≡ many_at (g.T.Element.at l.version) l.count l.bytes
