use Rattle.std.proofs.Common.{◌≡◌, ◌++◌, drop, filter}
use Rattle.journal_audit.specs.Own.{is_row_of}
use Rattle.journal_audit.proofs.pinning.rows_of.Given as goal

abbrev pub invariant-loop-row : goal.invariant-loop-row
invariant-loop-row g l =
    l.rows.items ++ filter (is_row_of l.object) (drop l.row-index l.user_pages)
    ≡ filter (is_row_of l.object) l.user_pages
