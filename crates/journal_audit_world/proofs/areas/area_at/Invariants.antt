use Rattle.std.proofs.Common.{◌≡◌, ◌&&◌, drop, find}
use Rattle.iofd_words.specs.Areas.{area_at, areas_of, is_of}
use Rattle.iofd_words.specs.Span.{holds}
use Rattle.journal_audit_world.proofs.areas.area_at.Given as goal

abbrev pub invariant-loop-area : goal.invariant-loop-area
invariant-loop-area l =
    find (λ area. is_of l.file l.ioas area && holds area.span l.address) (drop l.area-index l.areas)
    ≡ area_at l.address (areas_of l.areas l.file l.ioas)
