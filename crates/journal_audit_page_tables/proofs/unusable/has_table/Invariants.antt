use Rattle.std.proofs.Common.{◌≡◌, drop}
use Rattle.std.specs.List.{list_any}
use Rattle.journal_audit_page_tables.specs.Unusable.{is_table}
use Rattle.journal_audit_page_tables.proofs.unusable.has_table.Given as goal

abbrev pub invariant-loop-object : goal.invariant-loop-object
invariant-loop-object l =
    list_any (is_table l.file l.ioas l.width) (drop l.object-index l.objects)
    ≡ list_any (is_table l.file l.ioas l.width) l.objects
