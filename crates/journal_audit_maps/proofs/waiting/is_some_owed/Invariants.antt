use Rattle.std.proofs.Common.{◌≡◌, ◌&&◌, drop}
use Rattle.std.specs.List.{list_any}
use Rattle.iofd_words.specs.Areas.{is_touched}
use Rattle.journal_audit_maps.specs.Waiting.{are_owed}
use Rattle.journal_audit_maps.proofs.waiting.is_some_owed.Given as goal

abbrev pub invariant-loop-area : goal.invariant-loop-area
invariant-loop-area l =
    list_any (λ area. is_touched l.file l.request area && are_owed l.attached area.phase)
    (drop l.area-index l.areas)
    ≡ list_any (λ area. is_touched l.file l.request area && are_owed l.attached area.phase) l.areas
