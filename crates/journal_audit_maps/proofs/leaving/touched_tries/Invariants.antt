use Rattle.std.proofs.Common.{◌≡◌, drop, max}
use Rattle.std.specs.List.{fold}
use Rattle.iofd_words.specs.Areas.{touched, touched_tries, tries_of}
use Rattle.journal_audit_maps.proofs.leaving.touched_tries.Given as goal

abbrev pub invariant-loop-area : goal.invariant-loop-area
invariant-loop-area l =
    touched_tries l.areas l.file l.request
    ≡ fold (λ most area. max most (tries_of area.phase)) l.most (touched (drop l.area-index l.areas) l.file l.request)
