use Rattle.std.proofs.Common.{◌≡◌, drop}
use Rattle.std.specs.List.{list_any}
use Rattle.iofd_words.specs.Dirty.{is_tracked_as}
use Rattle.journal_audit_world.proofs.tracked.is_tracked.Given as goal

abbrev pub invariant-loop-row : goal.invariant-loop-row
invariant-loop-row g l =
    list_any (is_tracked_as l.file l.hwpt) (drop l.row-index l.rows)
    ≡ list_any (is_tracked_as l.file l.hwpt) l.rows
