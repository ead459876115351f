use Rattle.std.proofs.Common.{◌≡◌, ℕ, drop}
use Rattle.iofd_words.specs.Frames.{frame_at}
use Rattle.iofd_words.specs.declared.numbers.UserNo.{UserNo}
use Rattle.journal_audit_page_tables.specs.PageSets.{frame_in, or_else}
use Rattle.journal_audit_page_tables.proofs.page_sets.frames_by_page.Given as goal

abbrev pub invariant-loop-page : goal.invariant-loop-page
invariant-loop-page g l = (user : UserNo) (page : ℕ)
    → or_else (frame_in l.index user page) (frame_at (drop l.page-index l.pages) user page)
    ≡ frame_at l.pages user page
