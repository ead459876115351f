use Rattle.std.proofs.Common.{◌≡◌, ◌&&◌, not, drop}
use Rattle.std.specs.List.{list_any}
use Rattle.iofd_words.specs.Areas.{is_of}
use Rattle.iofd_words.specs.Span.{meets}
use Rattle.iofd_words.specs.TablePlaces.{is_live}
use Rattle.iofd_words.specs.Accesses.{meets_leaving}
use Rattle.iofd_words.specs.Areas.{areas_of}
use Rattle.journal_audit_maps.proofs.under.meets_leaving.Given as goal

abbrev pub invariant-loop-area : goal.invariant-loop-area
invariant-loop-area l =
    list_any (λ area. is_of l.file l.ioas area && (meets area.span l.asked && not (is_live area.phase)))
    (drop l.area-index l.areas)
    ≡ meets_leaving l.asked (areas_of l.areas l.file l.ioas)
