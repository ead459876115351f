use Rattle.std.proofs.Common.{◌≡◌, drop}
use Rattle.std.specs.List.{list_any}
use Rattle.iofd_words.specs.Areas.{areas_of}
use Rattle.journal_audit_maps.specs.Gaps.{is_page_in}
use Rattle.journal_audit_maps.proofs.gaps.reached.Given as goal

abbrev pub invariant-loop-area : goal.invariant-loop-area
invariant-loop-area l =
    list_any (is_page_in l.first l.index) (areas_of l.areas l.file l.ioas)
    ≡ list_any (is_page_in l.first l.index) (areas_of (drop l.area-index l.areas) l.file l.ioas)
