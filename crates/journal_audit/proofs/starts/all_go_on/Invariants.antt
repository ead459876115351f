use Rattle.std.proofs.Common.{◌≡◌, ◌||◌, not, ◌+◌, drop}
use Rattle.std.specs.List.{list_all}
use Rattle.iofd_words.specs.Span.{holds}
use Rattle.iofd_words.specs.Ranges.{in_spans}
use Rattle.journal_audit.proofs.starts.all_go_on.Given as goal

abbrev pub invariant-loop-range : goal.invariant-loop-range
invariant-loop-range l =
    list_all (λ one. not (holds l.span (one.last + 1)) || in_spans l.ranges (one.last + 1))
    (drop l.range-index l.ranges)
    ≡ list_all (λ one. not (holds l.span (one.last + 1)) || in_spans l.ranges (one.last + 1)) l.ranges
