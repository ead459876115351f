use Rattle.std.proofs.Common.{◌≡◌, drop}
use Rattle.std.specs.List.{list_any}
use Rattle.journal_audit_tables.specs.Numbers.{has_number}
use Rattle.journal_audit_tables.proofs.frames.have_table.Given as goal

abbrev pub invariant-loop-table : goal.invariant-loop-table
invariant-loop-table g l =
    list_any (λ table. has_number l.set.keys table.frame.0) (drop l.table-index l.tables)
    ≡ list_any (λ table. has_number l.set.keys table.frame.0) l.tables
