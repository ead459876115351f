use Rattle.std.proofs.Common.{◌≡◌, ◌&&◌, drop}
use Rattle.std.specs.List.{list_any}
use Rattle.iofd_words.specs.Areas.{is_of}
use Rattle.iofd_words.specs.Span.{meets}
use Rattle.iofd_words.specs.Tables.{span_of_table}
use Rattle.iofd_words.specs.Areas.{areas_meet, areas_of}
use Rattle.journal_audit_tables.proofs.idle.is_used.Given as goal

abbrev pub invariant-loop-area : goal.invariant-loop-area
invariant-loop-area l =
    list_any (λ area. is_of l.file l.ioas area && meets area.span (span_of_table l.table))
    (drop l.area-index l.areas)
    ≡ areas_meet (span_of_table l.table) (areas_of l.areas l.file l.ioas)
