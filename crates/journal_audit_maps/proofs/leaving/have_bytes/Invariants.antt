use Rattle.std.proofs.Common.{◌≡◌, ◌+◌, drop}
use Rattle.iofd_words.specs.Areas.{touched_bytes}
use Rattle.journal_audit_maps.proofs.leaving.have_bytes.Given as goal

-- what is left of the count, and what the areas so far have
abbrev pub invariant-loop-area : goal.invariant-loop-area
invariant-loop-area l =
    l.left + touched_bytes l.areas l.file l.request
    ≡ l.count + touched_bytes (drop l.area-index l.areas) l.file l.request
