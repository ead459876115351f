use Rattle.std.proofs.Common.{◌≡◌, drop, map}
use Rattle.std.specs.List.{filter}
use Rattle.iofd_words.specs.Bounds.{Bounds}
use Rattle.iofd_refusals.specs.Checks.{least}
use Rattle.iofd_words.specs.Fits.{whole_from}
use Rattle.journal_audit_maps.specs.Newly.{lesser}
use Rattle.journal_audit.specs.Starts.{may_lie}
use Rattle.journal_audit.proofs.starts.least_first.Given as goal

-- the lesser of what is found and of the rest is the least of all
abbrev pub invariant-loop-range : goal.invariant-loop-range
invariant-loop-range l =
    lesser l.least (least (filter (may_lie l.bytes l.choices l.taken)
    (map (λ (range : Bounds). whole_from range.first) (drop l.range-index l.choices))))
    ≡ least (filter (may_lie l.bytes l.choices l.taken)
    (map (λ (range : Bounds). whole_from range.first) l.choices))
