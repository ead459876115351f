use Rattle.std.proofs.Common.{◌&&◌, eqb, take}
use Rattle.std.specs.List.{list_any}
use Rattle.iofd_words.specs.Areas.{is_of}
use Rattle.iofd_words.specs.Pins.{span_of_page}
use Rattle.iofd_words.specs.Span.{lies_in}
use Rattle.iofd_words.specs.declared.rows.Area.{Area}
use Rattle.journal_audit_maps.specs.Newly.{IsNext}
use Rattle.journal_audit_maps.proofs.gathering.next_spanned.Given as goal

abbrev pub invariant-loop-area : goal.invariant-loop-area
invariant-loop-area l = IsNext (λ i. list_any (λ (area : Area). is_of l.file l.ioas area
    && (eqb area.memory l.number && lies_in (span_of_page area i) l.asked)) (take l.area-index l.areas)) l.from l.least
