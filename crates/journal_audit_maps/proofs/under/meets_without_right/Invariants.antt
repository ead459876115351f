use Rattle.std.proofs.Common.{◌≡◌, ◌&&◌, drop}
use Rattle.std.specs.List.{list_any}
use Rattle.iofd_words.specs.Areas.{is_of}
use Rattle.iofd_words.specs.Span.{meets}
use Rattle.iofd_words.specs.Accesses.{lacks_right}
use Rattle.iofd_words.specs.Accesses.{meets_without_right}
use Rattle.iofd_words.specs.Areas.{areas_of}
use Rattle.journal_audit_maps.proofs.under.meets_without_right.Given as goal

abbrev pub invariant-loop-area : goal.invariant-loop-area
invariant-loop-area l =
    list_any (λ area. is_of l.file l.ioas area && (meets area.span l.asked && lacks_right l.write area))
    (drop l.area-index l.areas)
    ≡ meets_without_right l.asked l.write (areas_of l.areas l.file l.ioas)
