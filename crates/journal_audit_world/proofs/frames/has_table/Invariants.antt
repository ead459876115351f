use Rattle.std.proofs.Common.{◌≡◌, ◌==◌, drop}
use Rattle.std.specs.List.{list_any}
use Rattle.journal_audit_world.proofs.frames.has_table.Given as goal

abbrev pub invariant-loop-table : goal.invariant-loop-table
invariant-loop-table l =
    list_any (λ table. table.frame.0 == l.frame) (drop l.table-index l.tables)
    ≡ list_any (λ table. table.frame.0 == l.frame) l.tables
