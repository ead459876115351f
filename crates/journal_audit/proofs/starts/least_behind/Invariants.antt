use Rattle.std.proofs.Common.{◌≡◌, ◌+◌, drop, map}
use Rattle.std.specs.List.{filter}
use Rattle.iofd_words.specs.Bounds.{Bounds}
use Rattle.iofd_refusals.specs.Checks.{least}
use Rattle.iofd_words.specs.Fits.{whole_from}
use Rattle.journal_audit_maps.specs.Newly.{lesser}
use Rattle.journal_audit.specs.Starts.{may_lie}
use Rattle.journal_audit.proofs.starts.least_behind.Given as goal

abbrev pub invariant-loop-index : goal.invariant-loop-index
invariant-loop-index l =
    lesser l.least (least (filter (may_lie l.bytes l.choices l.taken)
    (map (λ (span : Bounds). whole_from (span.last + 1)) (drop l.index l.taken))))
    ≡ lesser l.fn.first (least (filter (may_lie l.bytes l.choices l.taken)
    (map (λ (span : Bounds). whole_from (span.last + 1)) l.taken)))
