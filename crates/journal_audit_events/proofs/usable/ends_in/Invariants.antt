use Rattle.std.proofs.Common.{◌≡◌, drop}
use Rattle.std.specs.List.{list_any}
use Rattle.iofd_rows.specs.Reached.{ends_in}
use Rattle.iofd_words.specs.Ranges.{meets_some}
use Rattle.iofd_words.specs.Usable.{beyond_table}
use Rattle.journal_audit_events.proofs.usable.ends_in.Given as goal

abbrev pub invariant-loop-range : goal.invariant-loop-range
invariant-loop-range l =
    list_any (meets_some (beyond_table l.object.kind)) (drop l.range-index l.ranges)
    ≡ list_any (λ range. ends_in l.fn.file l.fn.ioas range l.object) l.ranges
