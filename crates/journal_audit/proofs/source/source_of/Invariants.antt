use Rattle.std.proofs.Common.{◌≡◌, ◌&&◌, drop, find}
use Rattle.iofd_words.specs.Areas.{areas_of, is_of}
use Rattle.iofd_words.specs.Copies.{is_live_at, source_in}
use Rattle.journal_audit.proofs.source.source_of.Given as goal

abbrev pub invariant-loop-area : goal.invariant-loop-area
invariant-loop-area l =
    find (λ area. is_of l.file l.request.src_ioas area && is_live_at l.asked area) (drop l.area-index l.areas)
    ≡ source_in (areas_of l.areas l.file l.request.src_ioas) l.request
