use Rattle.std.proofs.Common.{◌≡◌, ◌++◌, drop}
use Rattle.std.specs.List.{range_with_len}
use Rattle.journal_audit_tables.specs.Missing.{missing_over}
use Rattle.journal_audit_tables.proofs.missing.missing_over.Given as goal

abbrev pub invariant-loop-object : goal.invariant-loop-object
invariant-loop-object g l =
    l.missing.items ++ missing_over l.tables l.file l.ioas (range_with_len l.pages.first l.pages.count)
    (drop l.object-index l.objects)
    ≡ missing_over l.tables l.file l.ioas (range_with_len l.pages.first l.pages.count) l.objects
