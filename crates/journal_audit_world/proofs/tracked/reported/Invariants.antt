use Rattle.std.proofs.Common.{◌≡◌, ◌&&◌, ◌||◌, ℕ, drop}
use Rattle.iofd_words.specs.Dirty.{is_marked, reported_span}
use Rattle.iofd_words.specs.DirtyWords.{is_page_of, is_reported}
use Rattle.journal_audit_world.specs.Keys.{has_number}
use Rattle.journal_audit_world.proofs.tracked.reported.Given as goal

abbrev pub invariant-loop-row : goal.invariant-loop-row
invariant-loop-row g l = (n : ℕ)
    → (has_number l.pages n
    || (is_marked (drop l.row-index l.rows) l.file l.request.hwpt n && is_page_of (reported_span l.request) n))
    ≡ is_reported (is_marked l.rows l.file l.request.hwpt) (reported_span l.request) n
