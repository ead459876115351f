use Rattle.std.proofs.Common.{◌≡◌, drop}
use Rattle.std.specs.List.{list_any}
use Rattle.journal_audit_page_tables.specs.Unusable.{meets_unusable}
use Rattle.journal_audit_page_tables.proofs.narrowing.some_outside.Given as goal

abbrev pub invariant-loop-range : goal.invariant-loop-range
invariant-loop-range g l =
    list_any (meets_unusable l.config l.unusable) (drop l.range-index l.ranges)
    ≡ list_any (meets_unusable l.config l.unusable) l.ranges
