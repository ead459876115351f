use Rattle.std.proofs.Common.{◌≡◌, ◌||◌, not, drop}
use Rattle.std.specs.List.{list_all}
use Rattle.journal_audit_tables.specs.Numbers.{has_number}
use Rattle.journal_audit_events.specs.Gone.{is_gone}
use Rattle.journal_audit_tables.proofs.given.are_in.Given as goal

abbrev pub invariant-loop-table : goal.invariant-loop-table
invariant-loop-table g l =
    list_all (λ table. not (is_gone l.gone table) || has_number l.set.keys table.frame.0)
    (drop l.table-index l.tables)
    ≡ list_all (λ table. not (is_gone l.gone table) || has_number l.set.keys table.frame.0) l.tables
