use Rattle.std.proofs.Common.{◌≡◌, ◌&&◌, not, drop}
use Rattle.std.specs.List.{list_any}
use Rattle.iofd_words.specs.Areas.{is_of}
use Rattle.iofd_words.specs.Span.{lies_in, meets}
use Rattle.iofd_words.specs.Areas.{areas_of, is_cut}
use Rattle.journal_audit_maps.proofs.asked.is_cut.Given as goal

abbrev pub invariant-loop-area : goal.invariant-loop-area
invariant-loop-area l =
    list_any (λ area. is_of l.file l.ioas area && (meets area.span l.asked && not (lies_in area.span l.asked)))
    (drop l.area-index l.areas)
    ≡ is_cut l.asked (areas_of l.areas l.file l.ioas)
