use Rattle.std.proofs.Common.{◌≡◌, ◌&&◌, drop}
use Rattle.std.specs.List.{list_any}
use Rattle.iofd_words.specs.Areas.{is_of}
use Rattle.journal_audit_page_tables.specs.Unusable.{meets_unusable}
use Rattle.iofd_words.specs.Areas.{areas_of}
use Rattle.journal_audit_page_tables.proofs.narrowing.area_outside.Given as goal

abbrev pub invariant-loop-area : goal.invariant-loop-area
invariant-loop-area g l =
    list_any (λ area. is_of l.file l.ioas area && meets_unusable l.config l.unusable area.span)
    (drop l.area-index l.areas)
    ≡ list_any (λ area. meets_unusable l.config l.unusable area.span) (areas_of l.areas l.file l.ioas)
