use Rattle.std.proofs.Common.{◌≡◌, ◌++◌, drop, map}
use Rattle.iofd_words.specs.Areas.{areas_of}
use Rattle.iofd_words.specs.declared.rows.Area.{Area}
use Rattle.journal_audit.proofs.spans.push_areas.Given as goal

abbrev pub invariant-loop-area : goal.invariant-loop-area
invariant-loop-area g l =
    l.spans.items ++ map (λ (area : Area). area.span) (areas_of (drop l.area-index l.areas) l.file l.ioas)
    ≡ l.fn.spans.items ++ map (λ (area : Area). area.span) (areas_of l.areas l.file l.ioas)
