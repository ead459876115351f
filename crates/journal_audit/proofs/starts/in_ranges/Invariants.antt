use Rattle.std.proofs.Common.{◌≡◌, drop}
use Rattle.std.specs.List.{list_any}
use Rattle.iofd_words.specs.Span.{holds}
use Rattle.journal_audit.proofs.starts.in_ranges.Given as goal

abbrev pub invariant-loop-range : goal.invariant-loop-range
invariant-loop-range l =
    list_any (λ range. holds range l.address) (drop l.range-index l.ranges)
    ≡ list_any (λ range. holds range l.address) l.ranges
